use Rattle.std.proofs.Common.{ap, sym, ◌∙◌}
use Rattle.st_program.specs.Residuals.{Inside, plain_residual, plain_residuals}
use Rattle.st_program.proofs.ResidualRows.{residual-Inside}
use Rattle.st_program.proofs.residuals.+copy.Goals as goal

pub Residual::copy-returns-in_ok-copy_all-in-Inside : goal.Residual::copy-returns-in_ok-copy_all-in-Inside
Residual::copy-returns-in_ok-copy_all-in-Inside t c =
    residual-Inside c.in-Inside.coop c.in_ok-copy_all-in-Inside.field-0
    ∙ ap (Inside c.in-Inside.coop) (c.in_ok-copy_all-in-Inside.ensures ∙ ap plain_residuals c.deref-in-Inside.ensures.value)
    ∙ sym (residual-Inside c.in-Inside.coop c.in-Inside.children)
    ∙ ap plain_residual (sym c.in-Inside.is)
