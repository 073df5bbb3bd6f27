use Rattle.std.proofs.Common.{◌≡◌, ◌++◌, map, drop}
use Rattle.temporal_goals.specs.Plain.{plain_drawn_node, plain_edge}
use Rattle.diagram_conditions.specs.Leaving.{leaving_from}
use Rattle.diagram_conditions.specs.Plain.{plain_leaving}
use Rattle.diagram_conditions.proofs.leaving.edges_from.Given as goal

abbrev pub invariant-loop-edge : goal.invariant-loop-edge
invariant-loop-edge l =
    map plain_leaving l.out.items ++ leaving_from l.number (map plain_drawn_node l.fn.diagram.nodes.items) (map plain_edge (drop l.edge-index l.fn.diagram.edges.items))
    ≡ leaving_from l.number (map plain_drawn_node l.fn.diagram.nodes.items) (map plain_edge l.fn.diagram.edges.items)
