use Rattle.std.proofs.Common.{◌↔◌, length, map, drop}
use Rattle.st_form.specs.Shared.{plain_condition}
use Rattle.farkas_check.specs.PlainProblem.{setting}
use Rattle.search_laws.specs.Searchable.{AreSearchable}
use Rattle.shared_certificates.specs.Nodes.{tree}
use Rattle.shared_search.specs.Books.{Knows}
use Rattle.table_check.specs.Conditions.{HaveTrees}
use Rattle.table_check.specs.Nodes.{trees_by}
use Rattle.table_check.specs.Same.{AreEarlier}
use Rattle.table_check.proofs.checking.check_each.Given as goal

abbrev pub invariant-loop-place : goal.invariant-loop-place
invariant-loop-place l = record {
  knows : Knows (setting l.components l.variables) l.book;
  known : AreEarlier l.place l.notes.known.items;
  searchable : AreSearchable (length l.variables) (drop l.place l.conditions);
  same : HaveTrees (setting l.components l.variables) (map plain_condition (drop l.place l.conditions)) (map (tree (trees_by l.nodes)) (drop l.place l.roots))
      ↔ HaveTrees (setting l.components l.variables) (map plain_condition l.conditions) (map (tree (trees_by l.nodes)) l.roots);
}
