use Rattle.std.proofs.Common.{◌≡◌, ◌+◌, ◌++◌, drop}
use Rattle.equation_laws.specs.Rows.{over_forms}
use Rattle.linear_invariants.specs.Plain.{term_of}
use Rattle.linear_invariants.proofs.start.push_factors.Given as goal

abbrev pub invariant-loop-form : goal.invariant-loop-form
invariant-loop-form l = record {
  at : l.at ≡ l.column + l.form-index;
  same : l.out.items ++ over_forms (term_of l.of) l.at (drop l.form-index l.forms) ≡ l.fn.out.items ++ over_forms (term_of l.of) l.column l.forms;
}
