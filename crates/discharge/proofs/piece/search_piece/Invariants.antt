use Rattle.farkas_check.specs.PlainProblem.{setting}
use Rattle.shared_search.specs.Books.{Knows}
use Rattle.discharge.specs.Marked.{AreMarks}
use Rattle.discharge.proofs.piece.search_piece.Given as goal

abbrev pub invariant-loop : goal.invariant-loop
invariant-loop g l = record {
  knows : Knows (setting l.components l.variables) l.book;
  marks : AreMarks (setting l.components l.variables) l.conditions l.valid.items;
}
