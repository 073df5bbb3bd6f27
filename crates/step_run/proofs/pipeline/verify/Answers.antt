use Rattle.std.proofs.Common.{refl}
use Rattle.std.proofs.lemmas.Result.{IfOk-weaker}
use Rattle.step_plan.proofs.Follow.{follows_first, follows_end}
use Rattle.step_run.specs.Plans.{conditions_plan, verify_posed}
use Rattle.step_run.specs.Views.{posed_view}
use Rattle.step_run.proofs.Decided.{verified_decided}
use Rattle.step_run.proofs.pipeline.verify.Goals as goal

pub returns-in-On-clause-follows : goal.returns-in-On-clause-follows
returns-in-On-clause-follows g c =
    let posed = rw c.in-On.is at c.in_ok-posed.ensures.comes in
    let x = posed_view c.in-On.posed in
    IfOk-weaker c.verified.result _ _ (λ e h. follows_end _ verify_posed _ _ (conditions_plan c.args.program.now c.args.proof.now) x _ e posed.0 posed.1 refl (verified_decided x) h) c.verified.ensures

pub returns-in-Over-clause-follows : goal.returns-in-Over-clause-follows
returns-in-Over-clause-follows g c = follows_first _ verify_posed _ _ (conditions_plan c.args.program.now c.args.proof.now) _ (rw c.in-Over.is at c.in_ok-posed.ensures.comes)
