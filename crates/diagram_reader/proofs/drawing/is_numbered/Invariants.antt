use Rattle.std.proofs.Common.{◌≡◌, ◌==◌, map, drop}
use Rattle.std.specs.List.{list_any}
use Rattle.temporal_goals.specs.Plain.{plain_drawn_node}
use Rattle.diagram_reader.proofs.drawing.is_numbered.Given as goal

abbrev pub invariant-loop-node : goal.invariant-loop-node
invariant-loop-node l = list_any (λ n. n.number == l.number) (map plain_drawn_node (drop l.node-index l.nodes)) ≡ list_any (λ n. n.number == l.number) (map plain_drawn_node l.nodes)
