use Rattle.std.proofs.Common.{◌≡◌, [], map, drop}
use Rattle.shared_certificates.specs.Nodes.{node_view}
use Rattle.certificate_unfolding.specs.Sizes.{sizes_behind}
use Rattle.certificate_unfolding.proofs.sizes.sizes.Given as goal

abbrev pub invariant-loop-node : goal.invariant-loop-node
invariant-loop-node l = sizes_behind l.out.items (map node_view (drop l.node-index l.nodes)) ≡ sizes_behind [] (map node_view l.nodes)
