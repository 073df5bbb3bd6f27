use Rattle.std.proofs.Common.{map, drop}
use Rattle.temporal_goals.specs.Plain.{plain_drawn_node}
use Rattle.vc_generator.specs.Plain.{plain_list}
use Rattle.vc_generator.proofs.Growing.{Left}
use Rattle.rule_laws.specs.Diagrams.{each_node as each_node_of}
use Rattle.diagram_conditions.proofs.nodes.each_node.Given as goal

abbrev pub invariant-loop-index : goal.invariant-loop-index
invariant-loop-index g l =
    Left (plain_list l.fn.out) (plain_list l.out) (each_node_of (g.P.PerNode.asks l.fn.rule) (map plain_drawn_node l.fn.diagram.nodes.items))
    (each_node_of (g.P.PerNode.asks l.fn.rule) (map plain_drawn_node (drop l.index l.fn.diagram.nodes.items)))
