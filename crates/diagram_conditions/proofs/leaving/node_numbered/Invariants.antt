use Rattle.std.proofs.Common.{◌≡◌, map, drop}
use Rattle.temporal_goals.specs.Plain.{plain_drawn_node}
use Rattle.rule_laws.specs.Diagrams.{node_numbered as node_numbered_of}
use Rattle.diagram_conditions.proofs.leaving.node_numbered.Given as goal

abbrev pub invariant-loop-node : goal.invariant-loop-node
invariant-loop-node l = node_numbered_of l.number (map plain_drawn_node (drop l.node-index l.fn.diagram.nodes.items)) ≡ node_numbered_of l.number (map plain_drawn_node l.fn.diagram.nodes.items)
