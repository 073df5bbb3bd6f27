use Rattle.std.proofs.Common.{◌≡◌, ◌++◌, drop, map}
use Rattle.temporal_goals.specs.Plain.{plain_step}
use Rattle.condition_counts.specs.Sums.{step_sum}
use Rattle.condition_counts.proofs.counting.counted.Given as goal

abbrev pub invariant-loop-step : goal.invariant-loop-step
invariant-loop-step l = l.out.items ++ map (step_sum l.modes) (map plain_step (drop l.step-index l.steps)) ≡ map (step_sum l.modes) (map plain_step l.steps)
