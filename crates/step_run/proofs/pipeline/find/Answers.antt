use Rattle.std.proofs.Common.{refl}
use Rattle.std.proofs.lemmas.Result.{IfOk-weaker}
use Rattle.step_plan.proofs.Follow.{follows_first, follows_end}
use Rattle.step_run.specs.Plans.{source_plan, find_in}
use Rattle.step_run.specs.Views.{source_view}
use Rattle.step_run.proofs.Found.{looked-decided}
use Rattle.step_run.proofs.pipeline.find.Goals as goal

pub returns-in-On-clause-follows : goal.returns-in-On-clause-follows
returns-in-On-clause-follows g c =
    let source = rw c.in-On.is at c.in_ok-source.ensures.comes in
    let p = source_view c.in-On.source in
    IfOk-weaker c.invariants.result _ _ (λ e h. follows_end _ find_in _ _ (source_plan c.args.program.now) p _ e source.0 source.1 refl (looked-decided p) h) c.invariants.ensures

pub returns-in-Over-clause-follows : goal.returns-in-Over-clause-follows
returns-in-Over-clause-follows g c = follows_first _ find_in _ _ (source_plan c.args.program.now) _ (rw c.in-Over.is at c.in_ok-source.ensures.comes)
