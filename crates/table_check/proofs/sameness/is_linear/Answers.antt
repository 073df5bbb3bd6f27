use Rattle.std.proofs.Common.{ap, ◌∙◌, sym}
use Rattle.st_certificate.specs.Tree.{linear}
use Rattle.tree_table.proofs.Picking.{picks-same}
use Rattle.tree_table.proofs.Reading.{kind-linear}
use Rattle.table_check.proofs.sameness.is_linear.Goals as goal

pub returns-in-Linear : goal.returns-in-Linear
returns-in-Linear c h = kind-linear _ _ _ _ _ c.node.ensures c.in-Linear.is ∙ ap linear (sym c.picks.ensures ∙ picks-same _ _ _ c.eq.ensures h)
