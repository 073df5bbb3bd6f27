use Rattle.std.proofs.Common.{ap, ◌∙◌, arith}
use Rattle.st_program.specs.Residuals.{Then, plain_residual}
use Rattle.spl_semantics.proofs.Joining.{behind_in, behind_past}
use Rattle.spl_semantics.proofs.surgery.behind.Goals as goal

pub returns-in_ok-new : goal.returns-in_ok-new
returns-in_ok-new c =
    ap (λ r. Then (plain_residual r) c.args.block c.args.from) c.in_ok-new.ensures.ok ∙ behind_in c.args.items.now (plain_residual c.args.first) c.args.block c.args.from (omega arith)

pub returns-else-from-items : goal.returns-else-from-items
returns-else-from-items c = behind_past c.args.items.now (plain_residual c.args.first) c.args.block c.args.from (omega arith)
