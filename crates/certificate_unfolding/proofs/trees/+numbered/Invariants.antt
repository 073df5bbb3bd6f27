use Rattle.std.proofs.Common.{◌≡◌, ◌+◌, ◌*◌, [], length, map, take}
use Rattle.st_certificate.specs.Plain.{plain}
use Rattle.shared_certificates.specs.Nodes.{node_view, tree, trees_of}
use Rattle.certificate_unfolding.proofs.trees.+numbered.Given as goal

abbrev pub decreases-certificate : goal.decreases-certificate
decreases-certificate l = 3 * length l.before.now + 2

abbrev pub decreases-certificates : goal.decreases-certificates
decreases-certificates l = 3 * length l.nodes.now + 1

abbrev pub decreases-numbered : goal.decreases-numbered
decreases-numbered l = 3 * length l.nodes.now

abbrev pub invariant-certificates-loop-part : goal.invariant-certificates-loop-part
invariant-certificates-loop-part l = map plain l.out.items ≡ map (tree (trees_of [] (map node_view l.nodes))) (take l.part-index l.parts)
