use Rattle.std.proofs.Common.{arith}
use Rattle.shared_certificates.specs.Nodes.{node_view}
use Rattle.certificate_sharing.proofs.Growing.{pushed-in}
use Rattle.certificate_sharing.proofs.nodes.push.Goals as goal

pub returns : goal.returns
returns c = pushed-in c.args.table.now c.add.new.table (node_view c.args.node) c.in_ok-number.number c.in_ok-add.ensures (omega (arith, c.in_ok-number.ensures, c.len.ensures))
