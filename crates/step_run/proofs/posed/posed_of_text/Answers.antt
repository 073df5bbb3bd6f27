use Rattle.std.proofs.Common.{◌≡◌, ◌∙◌, sym}
use Rattle.std.proofs.lemmas.Result.{IfOk-weaker}
use Rattle.step_plan.specs.Outcome.{ended_view}
use Rattle.step_plan.specs.Plan.{ends, then_plan}
use Rattle.step_run.specs.Posing.{obliged_in}
use Rattle.step_run.specs.Plans.{scripted_of_text}
use Rattle.step_run.specs.Views.{source_view, scripted_view, posed_view}
use Rattle.step_run.proofs.Stages.{settles_then, ends_then}
use Rattle.step_run.proofs.Regrouping.{settles_as, posed_is}
use Rattle.step_run.proofs.posed.posed_of_text.Goals as goal

pub returns-in-On-clause-settles : goal.returns-in-On-clause-settles
returns-in-On-clause-settles c =
    let p = source_view c.args.source in
    let text = c.args.text.now in
    let read = rw c.in-On.is at c.in_ok-scripted.ensures.settles in
    IfOk-weaker c.obliged.result _ _
    (λ s h. settles_as posed_view _ _ s (posed_is p text) (settles_then posed_view obliged_in (scripted_of_text p text) (scripted_view c.in-On.scripted) s read h))
    c.obliged.ensures.settles

pub returns-in-Over-clause-settles : goal.returns-in-Over-clause-settles
returns-in-Over-clause-settles c =
    let p = source_view c.args.source in
    let text = c.args.text.now in
    let over = rw c.in-Over.is at c.in_ok-scripted.ensures.settles in
    let ends_so : then_plan (scripted_of_text p text) obliged_in ≡ ends (ended_view c.in-Over.ended) = ends_then obliged_in (scripted_of_text p text) (ended_view c.in-Over.ended) over.0 in
    (sym (posed_is p text) ∙ ends_so, over.1)
