use Rattle.std.proofs.Common.{◌≡◌, ◌++◌, drop, map}
use Rattle.temporal_goals.specs.Plain.{plain_step}
use Rattle.step_report.specs.Goals.{goal_lines}
use Rattle.step_report.proofs.goals.push_goals.Given as goal

abbrev pub invariant-loop-step : goal.invariant-loop-step
invariant-loop-step l = l.out.items ++ goal_lines l.names (map plain_step (drop l.step-index l.steps)) ≡ l.fn.out.items ++ goal_lines l.names (map plain_step l.steps)
