use Rattle.std.proofs.Common.{◌≡◌, ◌++◌, List, drop, map}
use Rattle.st_form.specs.declared.conditions.TransName.{TransName}
use Rattle.st_program.specs.Tree.{Processes}
use Rattle.temporal_goals.specs.Plain.{plain_step}
use Rattle.spl_semantics.specs.Runs.{State}
use Rattle.spl_semantics.specs.Observed.{observed}
use Rattle.trace_player.specs.Playing.{IsPlayed}
use Rattle.trace_player.specs.Watching.{IsWatched}
use Rattle.step_run.specs.Judged.{all_judged}
use Rattle.step_run.proofs.tracing.judged_all.Given as goal

abbrev pub invariant-loop-step : goal.invariant-loop-step
invariant-loop-step l = (p : Processes) (s : State) (later : List (TransName × State)) → IsWatched p l.played l.watched → IsPlayed p s later l.played
    → l.judged.items ++ all_judged (observed p s later) (map plain_step (drop l.step-index l.steps)) ≡ all_judged (observed p s later) (map plain_step l.steps)
