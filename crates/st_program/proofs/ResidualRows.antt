-- How a residual is seen that holds a list.
use Rattle.std.proofs.Common.{◌≡◌, ℕ, Vec, Global, refl, ap, ◌∙◌}
use Rattle.st_program.specs.declared.residuals.Residual as GResidual
use Rattle.st_program.specs.declared.residuals.Residual.TheBlock as TB
use Rattle.st_program.specs.Residuals.{rests, Inside, plain_residual, plain_row, plain_residuals}

row_items : {n : _} (row : GResidual.Row_of-Residual n) → plain_row row ≡ plain_residuals (GResidual.items-the_row-Residual n row)
row_items GResidual.end_of-Residual = refl
row_items (GResidual.more_of-Residual r rest) = ap (rests (plain_residual r)) (row_items rest)

pub residual-Inside : (c : ℕ) (v : Vec GResidual.Residual Global) → plain_residual (GResidual.Inside c v) ≡ Inside c (plain_residuals v.items)
residual-Inside c v = ap (Inside c) (row_items (TB.hidden-the_row-Residual-0 v) ∙ ap plain_residuals (GResidual.items_hidden-the_row-Residual-0 v))

pub ruleset residuals = (residual-Inside)
