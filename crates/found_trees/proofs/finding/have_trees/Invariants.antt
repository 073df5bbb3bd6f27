use Rattle.farkas_check.specs.PlainProblem.{setting}
use Rattle.shared_search.specs.Books.{Knows}
use Rattle.found_trees.proofs.Trees.{AreBefore}
use Rattle.found_trees.proofs.finding.have_trees.Given as goal

abbrev pub invariant-loop-place : goal.invariant-loop-place
invariant-loop-place l = record {
  knows : Knows (setting l.components l.variables) l.book;
  before : AreBefore (setting l.components l.variables) l.conditions l.place;
}
