use Rattle.std.proofs.Common.{◌≡◌, drop}
use Rattle.st_program.specs.Residuals.{plain_residuals}
use Rattle.spl_semantics.specs.Going.{all_done}
use Rattle.spl_semantics.proofs.surgery.all_done.Given as goal

abbrev pub invariant-loop-residual : goal.invariant-loop-residual
invariant-loop-residual l = all_done (plain_residuals (drop l.residual-index l.residuals)) ≡ all_done (plain_residuals l.residuals)
