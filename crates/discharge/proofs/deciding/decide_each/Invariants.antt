use Rattle.std.proofs.Common.{drop}
use Rattle.farkas_check.specs.PlainProblem.{setting}
use Rattle.shared_search.specs.Books.{Knows}
use Rattle.discharge.proofs.Halves.{AnswerSoFar}
use Rattle.discharge.proofs.deciding.decide_each.Given as goal

abbrev pub invariant-loop-condition : goal.invariant-loop-condition
invariant-loop-condition l = record {
  knows : Knows (setting l.components l.variables) l.book;
  answers : AnswerSoFar (setting l.components l.variables) l.conditions l.verdicts.items (drop l.condition-index l.conditions);
}
