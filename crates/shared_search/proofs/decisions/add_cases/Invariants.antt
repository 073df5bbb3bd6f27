use Rattle.std.proofs.Common.{take, map}
use Rattle.sharing_laws.specs.Lists.{by_case_alone}
use Rattle.shared_search.specs.Books.{AreDecisions, IsLonger}
use Rattle.shared_search.proofs.decisions.add_cases.Given as goal

abbrev pub invariant-loop-choice : goal.invariant-loop-choice
invariant-loop-choice l = record {
  longer : IsLonger l.fn.table.decisions l.table.decisions;
  made : AreDecisions l.table.decisions l.out.items (map (by_case_alone l.components l.component) (take l.choice-index l.choices));
}
