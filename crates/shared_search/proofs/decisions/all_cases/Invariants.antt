use Rattle.std.proofs.Common.{◌≡◌, length, List}
use Rattle.st_form.specs.declared.variables.Variable.{Variable}
use Rattle.farkas_check.specs.PlainProblem.{setting}
use Rattle.shared_search.specs.Books.{AreKept, IsLonger, case_decisions}
use Rattle.shared_search.proofs.decisions.all_cases.Given as goal

abbrev pub invariant-loop-component : goal.invariant-loop-component
invariant-loop-component l = record {
  longer : IsLonger l.fn.table.decisions l.table.decisions;
  size : l.component ≡ length l.out.items;
  kept : (vs : List Variable) → AreKept l.table.decisions (case_decisions (setting l.components vs)) l.out.items;
}
