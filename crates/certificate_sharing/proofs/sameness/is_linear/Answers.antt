use Rattle.std.proofs.Common.{ap, ◌∙◌, sym}
use Rattle.shared_certificates.specs.Nodes.{linear_sum, node_view}
use Rattle.tree_table.proofs.Picking.{picks-same}
use Rattle.certificate_sharing.proofs.sameness.is_linear.Goals as goal

pub returns-in-Linear : goal.returns-in-Linear
returns-in-Linear c h = ap node_view c.in-Linear.is ∙ ap linear_sum (sym c.as_slice.ensures.value ∙ picks-same _ _ _ c.eq.ensures h)
