use Rattle.std.proofs.lemmas.Result.{IfOk-weaker}
use Rattle.std.proofs.Common.{map}
use Rattle.temporal_goals.specs.Plain.{plain_step}
use Rattle.schedule_reader.specs.Schedules.{plain_schedule}
use Rattle.refuted_goals.proofs.Answers.{is_no}
use Rattle.refuted_goals.proofs.Schedules.{where_made, never_starts, grows_too_large, stops}
use Rattle.refuted_goals.proofs.playing.fails_by.Goals as goal

pub returns-in-Ok : goal.returns-in-Ok
returns-in-Ok c =
    let x = c.args.source.now in
    let steps = map plain_step c.args.steps.now in
    let s = plain_schedule c.args.schedule.now in
    let run = c.in-Ok.ensures.answers in
    IfOk-weaker c.last_fails.result _ _ (λ b h. where_made x c.requires.translated steps s run.1.0 run.0 run.1.1 b (h _ run.1.0 run.1.2)) c.last_fails.ensures

pub returns-in-Err-NoStart : goal.returns-in-Err-NoStart
returns-in-Err-NoStart c =
    let answers = rw c.in-Err-NoStart.field-0-is at c.in-Err-NoStart.ensures.answers in
    is_no (never_starts c.args.source.now c.requires.translated (map plain_step c.args.steps.now) (plain_schedule c.args.schedule.now) answers)

pub returns-in-Err-ValueLimit : goal.returns-in-Err-ValueLimit
returns-in-Err-ValueLimit c =
    let answers = rw c.in-Err-ValueLimit.field-0-is at c.in-Err-ValueLimit.ensures.answers in
    is_no (grows_too_large c.args.source.now c.requires.translated (map plain_step c.args.steps.now) (plain_schedule c.args.schedule.now) _ answers.1)

pub returns-in-Err-Illegal : goal.returns-in-Err-Illegal
returns-in-Err-Illegal c =
    let answers = rw c.in-Err-Illegal.field-0-is at c.in-Err-Illegal.ensures.answers in
    is_no (stops c.args.source.now c.requires.translated (map plain_step c.args.steps.now) (plain_schedule c.args.schedule.now) _ answers.1)
