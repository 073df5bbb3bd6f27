use Rattle.std.proofs.Common.{◌≡◌, ◌≤◌, drop, length, map}
use Rattle.equation_forms.specs.Formulas.{choices}
use Rattle.equation_writer.specs.Plain.{plain_terms, plain_case}
use Rattle.equation_writer.proofs.cases.cases.Given as goal

abbrev pub invariant-loop-left : goal.invariant-loop-left
invariant-loop-left l = record {
  within : l.left ≤ length l.groups;
  same : map plain_case l.out.items ≡ choices (plain_terms (drop l.left l.groups));
}

abbrev pub decreases-loop-left : goal.decreases-loop-left
decreases-loop-left l = l.left
