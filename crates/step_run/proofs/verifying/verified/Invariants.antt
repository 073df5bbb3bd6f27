use Rattle.std.proofs.Common.{◌-◌, length}
use Rattle.step_run.specs.Views.{posed_view}
use Rattle.step_run.proofs.Slices.{Come}
use Rattle.step_run.proofs.verifying.verified.Given as goal

abbrev pub invariant-loop-place : goal.invariant-loop-place
invariant-loop-place g l = Come (posed_view l.posed) l.place (λ ts. Unit {0})

abbrev pub decreases-loop-place : goal.decreases-loop-place
decreases-loop-place g l = length l.posed.conditions.items - l.place
