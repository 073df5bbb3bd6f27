use Rattle.std.proofs.Common.{◌≡◌, map, take}
use Rattle.temporal_goals.specs.Plain.{plain_node}
use Rattle.temporal_goals.proofs.nets.Net.copy.Given as goal

abbrev pub invariant-loop-node : goal.invariant-loop-node
invariant-loop-node l = map plain_node l.nodes.items ≡ map plain_node (take l.node-index l.fn.self.nodes.items)
