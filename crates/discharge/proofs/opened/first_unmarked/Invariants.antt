use Rattle.farkas_check.specs.PlainProblem.{setting}
use Rattle.shared_search.specs.Books.{Knows}
use Rattle.discharge.specs.Searched.{ValidBefore}
use Rattle.discharge.proofs.opened.first_unmarked.Given as goal

abbrev pub invariant-loop-place : goal.invariant-loop-place
invariant-loop-place l = record {
  knows : Knows (setting l.components l.variables) l.book;
  before : ValidBefore (setting l.components l.variables) l.conditions l.place;
}
