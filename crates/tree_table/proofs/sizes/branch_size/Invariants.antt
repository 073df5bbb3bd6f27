use Rattle.std.proofs.Common.{◌≡◌, ◌+◌, ◌≤◌, min, max, drop}
use Rattle.search_laws.specs.Sizes.{nodes_of, levels_of}
use Rattle.tree_table.specs.Table.{listed}
use Rattle.tree_table.specs.Nodes.{trees_in}
use Rattle.tree_table.proofs.sizes.branch_size.Given as goal

abbrev pub invariant-loop-part : goal.invariant-loop-part
invariant-loop-part l = record {
  few : l.nodes ≤ 100001;
  nodes : min (l.nodes + nodes_of (listed (trees_in l.table) (drop l.part-index l.parts))) 100001 ≡ min (1 + nodes_of (listed (trees_in l.table) l.parts)) 100001;
  levels : min (1 + max l.levels (levels_of (listed (trees_in l.table) (drop l.part-index l.parts)))) 401 ≡ min (1 + levels_of (listed (trees_in l.table) l.parts)) 401;
}
