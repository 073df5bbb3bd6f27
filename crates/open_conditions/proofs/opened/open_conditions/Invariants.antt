use Rattle.std.proofs.Common.{◌≡◌, take, map}
use Rattle.farkas_check.specs.PlainProblem.{setting}
use Rattle.shared_search.specs.Books.{Knows}
use Rattle.discharge.specs.Marked.{place_of}
use Rattle.discharge.specs.Searched.{marks}
use Rattle.open_conditions.specs.Open.{AreOpen, places_of_false}
use Rattle.open_conditions.proofs.opened.open_conditions.Given as goal

abbrev pub invariant-loop-place : goal.invariant-loop-place
invariant-loop-place g l = record {
  knows : Knows (setting l.components l.variables) l.book;
  places : map place_of l.kept.items ≡ places_of_false 0 (take l.place (marks (setting l.components l.variables) l.conditions));
  right : AreOpen (setting l.components l.variables) l.conditions l.kept.items;
}
