use Rattle.std.proofs.Common.{◌≡◌, ◌+◌, ◌*◌, map, take}
use Rattle.st_certificate.specs.Plain.{plain}
use Rattle.tree_table.specs.Table.{tree}
use Rattle.tree_table.specs.Nodes.{trees_in}
use Rattle.tree_table.proofs.certificates.+certificate.Given as goal

abbrev pub decreases-certificate : goal.decreases-certificate
decreases-certificate l = 2 * l.number + 1

abbrev pub decreases-certificates : goal.decreases-certificates
decreases-certificates l = 2 * l.number

abbrev pub invariant-certificates-loop-part : goal.invariant-certificates-loop-part
invariant-certificates-loop-part l = map plain l.out.items ≡ map (tree (trees_in l.table)) (take l.part-index l.parts)
