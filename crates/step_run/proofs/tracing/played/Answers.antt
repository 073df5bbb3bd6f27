use Rattle.std.proofs.Common.{◌∙◌}
use Rattle.std.proofs.lemmas.Result.{IfOk-weaker}
use Rattle.schedule_reader.specs.Schedules.{plain_schedule}
use Rattle.step_run.specs.Views.{scripted_view}
use Rattle.step_run.proofs.Scripts.{never_starts, grows_too_large, stops}
use Rattle.step_run.proofs.tracing.played.Goals as goal

pub reported-requires-clause-plays : goal.reported-requires-clause-plays
reported-requires-clause-plays c = record { answers = c.in-Ok.ensures.answers; states = c.in-Ok.ensures.long.0; enabled = c.in-Ok.ensures.long.1 }

pub returns-in-Err-NoStart : goal.returns-in-Err-NoStart
returns-in-Err-NoStart c =
    let answers = rw c.in-Err-NoStart.field-0-is at c.in-Err-NoStart.ensures.answers in
    IfOk-weaker c.end.result _ _ (λ e h. h ∙ never_starts (scripted_view c.args.scripted.now) (plain_schedule c.args.schedule.now) answers) c.end.ensures

pub returns-in-Err-ValueLimit : goal.returns-in-Err-ValueLimit
returns-in-Err-ValueLimit c =
    let answers = rw c.in-Err-ValueLimit.field-0-is at c.in-Err-ValueLimit.ensures.answers in
    IfOk-weaker c.end-in-Err-ValueLimit.result _ _ (λ e h. h ∙ grows_too_large (scripted_view c.args.scripted.now) (plain_schedule c.args.schedule.now) c.in-Err-ValueLimit.position answers) c.end-in-Err-ValueLimit.ensures

pub returns-in-Err-Illegal : goal.returns-in-Err-Illegal
returns-in-Err-Illegal c =
    let answers = rw c.in-Err-Illegal.field-0-is at c.in-Err-Illegal.ensures.answers in
    IfOk-weaker c.end-in-Err-Illegal.result _ _ (λ e h. h ∙ stops (scripted_view c.args.scripted.now) (plain_schedule c.args.schedule.now) c.in-Err-Illegal.number answers) c.end-in-Err-Illegal.ensures
