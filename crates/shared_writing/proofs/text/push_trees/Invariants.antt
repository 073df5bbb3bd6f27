use Rattle.std.proofs.Common.{◌≡◌, ◌++◌, drop, map}
use Rattle.shared_certificates.specs.Nodes.{node_view}
use Rattle.shared_writing.specs.Writing.{tree_lines}
use Rattle.shared_writing.proofs.text.push_trees.Given as goal

abbrev pub invariant-loop-i : goal.invariant-loop-i
invariant-loop-i l = l.out.items ++ tree_lines l.i (map node_view (drop l.i l.nodes)) ≡ l.fn.out.items ++ tree_lines 0 (map node_view l.nodes)
