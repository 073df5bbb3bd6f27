use Rattle.std.proofs.Common.{◌+◌, map, arith}
use Rattle.temporal_goals.specs.Plain.{plain_goal, plain_step}
use Rattle.spl_semantics.specs.Observed.{observed}
use Rattle.step_run.specs.Judged.{all_judged}
use Rattle.step_run.proofs.Judging.{judged_is, judged_more}
use Rattle.step_run.proofs.tracing.judged_all.Goals as goal

pub loop-step-preserved : goal.loop-step-preserved
loop-step-preserved c = λ p s later watched played.
    (let o = observed p s later in
    let i = c.loop-step.step-index in
    let judged = judged_is (plain_goal c.step-item.result.goal) o c.in_ok-judge_watched.field-0 (c.in_ok-judge_watched.ensures p s later watched played) in
    let more = judged_more o c.loop-step.judged.items c.in_ok-judge_watched.field-0 c.args.steps.now i (i + 1) c.step-item.result (all_judged o (map plain_step c.args.steps.now)) (omega arith) c.loop-step-test.true c.step-item.is judged (c.loop-step.invariant p s later watched played) in
    rw c.in_ok-push.ensures.items more)
