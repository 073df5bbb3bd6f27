use Rattle.std.proofs.lemmas.Result.{IfOk-weaker}
use Rattle.step_plan.proofs.Follow.{follows_then, follows_first}
use Rattle.step_run.specs.Plans.{conditions_plan, check_posed}
use Rattle.step_run.specs.Views.{posed_view}
use Rattle.step_run.proofs.Filed.{moved}
use Rattle.step_run.proofs.pipeline.check.Goals as goal

pub returns-in-Over-clause-follows : goal.returns-in-Over-clause-follows
returns-in-Over-clause-follows g c =
    follows_first _ (check_posed c.args.certificates.now) _ _ (conditions_plan c.args.program.now c.args.proof.now) _ (rw c.in-Over.is at c.in_ok-posed.ensures.comes)

pub returns-clause-follows : goal.returns-clause-follows
returns-clause-follows g c =
    let posed = rw c.in-On.is at c.in_ok-posed.ensures.comes in
    let x = posed_view c.in-On.posed in
    IfOk-weaker c.checked.result _ _
    (λ e h. follows_then _ (check_posed c.args.certificates.now) _ _ (conditions_plan c.args.program.now c.args.proof.now) _ e posed.1
    (moved _ _ _ _ _ (check_posed c.args.certificates.now x) e c.ask_conditions.ensures.same posed.0 h))
    c.checked.ensures.follows
