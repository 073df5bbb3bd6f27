use Rattle.std.proofs.Common.{◌≡◌, ◌-◌, ◌*◌, ◌≤◌, length}
use Rattle.step_run.specs.Verified.{nodes_in}
use Rattle.step_run.specs.Views.{posed_view}
use Rattle.step_run.proofs.Slices.{Come}
use Rattle.step_run.proofs.counting.counted.Given as goal

abbrev pub invariant-loop-place : goal.invariant-loop-place
invariant-loop-place l = Come (posed_view l.posed) l.place (λ ts. (l.nodes ≡ nodes_in ts) × (l.nodes ≤ 100000 * l.place))

abbrev pub decreases-loop-place : goal.decreases-loop-place
decreases-loop-place l = length l.posed.conditions.items - l.place
