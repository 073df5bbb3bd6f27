use Rattle.std.proofs.Common.{ap, ◌∙◌, sym}
use Rattle.shared_certificates.specs.Nodes.{farkas_sum, node_view}
use Rattle.certificate_sharing.proofs.Picking.{rows-same}
use Rattle.certificate_sharing.proofs.sameness.is_farkas.Goals as goal

pub returns-in-Farkas : goal.returns-in-Farkas
returns-in-Farkas c h = ap node_view c.in-Farkas.is ∙ ap farkas_sum (sym c.as_slice.ensures.value ∙ rows-same _ _ _ c.eq.ensures h)
