use Rattle.std.proofs.Common.{◌≡◌, ◌+◌, ◌*◌, length, map, take}
use Rattle.tree_table.specs.Table.{tree}
use Rattle.tree_table.specs.Nodes.{trees_in}
use Rattle.table_check.specs.Nodes.{trees_by}
use Rattle.table_check.specs.Same.{AreSame}
use Rattle.table_check.proofs.sameness.+is_same.Given as goal

abbrev pub decreases-is_node : goal.decreases-is_node
decreases-is_node l = 3 * l.found + 1

abbrev pub decreases-are_same : goal.decreases-are_same
decreases-are_same l = 3 * l.number

abbrev pub decreases-is_same : goal.decreases-is_same
decreases-is_same l = 3 * l.found + 2

abbrev pub invariant-are_same-loop-place : goal.invariant-are_same-loop-place
invariant-are_same-loop-place l = record {
  lengths : length l.found ≡ length l.given;
  known : AreSame l.turn (trees_in l.made) (trees_by l.nodes) l.known.items;
  same : map (tree (trees_in l.made)) (take l.place l.found) ≡ map (tree (trees_by l.nodes)) (take l.place l.given);
}
