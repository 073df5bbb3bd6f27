use Rattle.std.proofs.Common.{◌≡◌, length}
use Rattle.farkas_check.specs.PlainProblem.{setting}
use Rattle.shared_search.specs.Books.{AreKept, IsLonger, truth_decisions}
use Rattle.shared_search.proofs.decisions.all_truths.Given as goal

abbrev pub invariant-loop-var : goal.invariant-loop-var
invariant-loop-var l = record {
  longer : IsLonger l.fn.table.decisions l.table.decisions;
  size : l.var ≡ length l.out.items;
  kept : AreKept l.table.decisions (truth_decisions (setting l.components l.variables)) l.out.items;
}
