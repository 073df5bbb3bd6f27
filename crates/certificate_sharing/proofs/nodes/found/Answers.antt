use Rattle.shared_certificates.specs.Nodes.{node_view}
use Rattle.certificate_sharing.proofs.Growing.{kept-is}
use Rattle.certificate_sharing.proofs.nodes.found.Goals as goal

pub returns-then-is_kept : goal.returns-then-is_kept
returns-then-is_kept c = kept-is c.args.nodes.now c.in-Some.number (node_view c.args.node.now) (c.is_kept.ensures c.if-is_kept.true)
