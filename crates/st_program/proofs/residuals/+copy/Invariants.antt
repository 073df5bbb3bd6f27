use Rattle.std.proofs.Common.{◌≡◌, take, map}
use Rattle.st_program.specs.Residuals.{plain_residual}
use Rattle.st_program.proofs.residuals.+copy.Given as goal

abbrev pub invariant-copy_all-loop-residual : goal.invariant-copy_all-loop-residual
invariant-copy_all-loop-residual l = map plain_residual l.copies.items ≡ map plain_residual (take l.residual-index l.residuals)
