use Rattle.std.proofs.lemmas.Result.{IfOk-weaker}
use Rattle.step_plan.proofs.Follow.{follows_first, comes_text}
use Rattle.step_run.specs.Posing.{obliged_in}
use Rattle.step_run.specs.Plans.{scripted_plan}
use Rattle.step_run.specs.Views.{scripted_view, posed_view}
use Rattle.step_run.proofs.Regrouping.{comes_as, follows_as, conditions_are}
use Rattle.step_run.proofs.posed.ask_conditions.Goals as goal

pub returns-in-On-clause-comes : goal.returns-in-On-clause-comes
returns-in-On-clause-comes g c =
    let told = g.F.Files.told c.args.files.now in
    let plan = scripted_plan c.args.program.now c.args.proof.now in
    let scripted = rw c.in-On.is at c.in_ok-scripted.ensures.comes in
    let x = scripted_view c.in-On.scripted in
    IfOk-weaker c.obliged.result _ _
    (λ s h. comes_as posed_view told _ _ _ _ s (conditions_are c.args.program.now c.args.proof.now) (comes_text told obliged_in posed_view _ _ plan x s scripted.0 scripted.1 h))
    c.obliged.ensures.settles

pub returns-in-Over-clause-comes : goal.returns-in-Over-clause-comes
returns-in-Over-clause-comes g c =
    let told = g.F.Files.told c.args.files.now in
    let plan = scripted_plan c.args.program.now c.args.proof.now in
    let over = rw c.in-Over.is at c.in_ok-scripted.ensures.comes in
    follows_as told _ _ _ _ _ (conditions_are c.args.program.now c.args.proof.now) (follows_first told obliged_in _ _ plan _ over)
