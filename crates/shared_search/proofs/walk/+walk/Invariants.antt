use Rattle.std.proofs.Common.{◌+◌, ◌*◌, take, map}
use Rattle.farkas_check.specs.PlainProblem.{setting}
use Rattle.form_table.specs.Contents.{formulas_of}
use Rattle.tree_table.specs.Nodes.{trees_in}
use Rattle.shared_search.specs.Lists.{HaveTrees, child_of}
use Rattle.shared_search.specs.Books.{GrowsTo, Remembers}
use Rattle.shared_search.proofs.walk.+walk.Given as goal

abbrev pub decreases-walk : goal.decreases-walk
decreases-walk l = 4 * l.levels + 3

abbrev pub decreases-walk_list : goal.decreases-walk_list
decreases-walk_list l = 4 * l.levels + 2

abbrev pub decreases-search : goal.decreases-search
decreases-search l = 4 * l.levels + 5

abbrev pub decreases-walk_all : goal.decreases-walk_all
decreases-walk_all l = 4 * l.levels + 4

abbrev pub invariant-walk_all-loop-child : goal.invariant-walk_all-loop-child
invariant-walk_all-loop-child l = record {
  grows : GrowsTo l.fn.memo l.memo;
  remembers : Remembers (setting l.components l.variables) l.memo;
  have : HaveTrees (setting l.components l.variables) (trees_in l.memo.trees) l.parts.items (map (child_of (formulas_of l.fn.memo.table) l.fn.memo.contexts.kept.items) (take l.child-index l.children));
}
