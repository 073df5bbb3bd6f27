use Rattle.std.proofs.Common.{◌≡◌, map, take}
use Rattle.temporal_goals.specs.Plain.{plain_drawn_node}
use Rattle.temporal_goals.proofs.diagrams.copy_nodes.Given as goal

abbrev pub invariant-loop-node : goal.invariant-loop-node
invariant-loop-node l = map plain_drawn_node l.out.items ≡ map plain_drawn_node (take l.node-index l.nodes)
