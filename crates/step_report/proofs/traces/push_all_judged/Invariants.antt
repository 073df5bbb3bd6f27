use Rattle.std.proofs.Common.{◌≡◌, ◌++◌, drop, map}
use Rattle.temporal_goals.specs.Plain.{plain_step}
use Rattle.step_report.specs.Traces.{judged_lines}
use Rattle.step_report.proofs.traces.push_all_judged.Given as goal

abbrev pub invariant-loop-step : goal.invariant-loop-step
invariant-loop-step l = l.out.items ++ judged_lines l.names (map plain_step (drop l.step-index l.steps)) l.rest ≡ l.fn.out.items ++ judged_lines l.names (map plain_step l.steps) l.judged
