use Rattle.std.proofs.Common.{◌≡◌, ◌+◌, ◌*◌, ◌++◌, drop}
use Rattle.cert_text.specs.Spelling.{trees_text}
use Rattle.tree_table.specs.Table.{listed}
use Rattle.tree_table.specs.Nodes.{trees_in}
use Rattle.tree_writing.specs.Standing.{Holds}
use Rattle.tree_writing.proofs.blocks.+write.Given as goal

abbrev pub decreases-push_tree : goal.decreases-push_tree
decreases-push_tree l = 4 * l.number + 3

abbrev pub decreases-push_node : goal.decreases-push_node
decreases-push_node l = 4 * l.number + 2

abbrev pub decreases-push_branch : goal.decreases-push_branch
decreases-push_branch l = 4 * l.number + 1

abbrev pub decreases-push_parts : goal.decreases-push_parts
decreases-push_parts l = 4 * l.number

abbrev pub invariant-push_parts-loop-part : goal.invariant-push_parts-loop-part
invariant-push_parts-loop-part l = record {
  so_far : l.text.items ++ trees_text (listed (trees_in l.table) (drop l.part-index l.parts)) ≡ l.initial.text.items ++ trees_text (listed (trees_in l.table) l.parts);
  holds : Holds (trees_in l.table) l.start l.text.items l.places.kept.items;
}
