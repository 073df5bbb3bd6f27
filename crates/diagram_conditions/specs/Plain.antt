-- The edges that leave a node as plain data.
use Rattle.std.specs.Prelude.{Option}
use Rattle.std.specs.Option.{option_map}
use Rattle.temporal_goals.specs.Texts.{PlainDrawnNode, PlainEdge}
use Rattle.temporal_goals.specs.Plain.{plain_drawn_node, plain_edge}
use Rattle.diagram_conditions.specs.declared.leaving.Leaving.{Leaving}

abbrev pub plain_leaving : Leaving → PlainEdge × Option PlainDrawnNode
plain_leaving l = (plain_edge l.edge.now, option_map (λ n. plain_drawn_node n.now) l.end)
