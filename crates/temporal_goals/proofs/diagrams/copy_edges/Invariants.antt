use Rattle.std.proofs.Common.{◌≡◌, map, take}
use Rattle.temporal_goals.specs.Plain.{plain_edge}
use Rattle.temporal_goals.proofs.diagrams.copy_edges.Given as goal

abbrev pub invariant-loop-edge : goal.invariant-loop-edge
invariant-loop-edge l = map plain_edge l.out.items ≡ map plain_edge (take l.edge-index l.edges)
