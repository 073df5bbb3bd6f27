use Rattle.std.proofs.Common.{sym, ◌∙◌, arith}
use Rattle.std.proofs.lemmas.List.{length-map}
use Rattle.std.proofs.lemmas.Result.{IfOk-weaker}
use Rattle.st_form.specs.Shared.{plain_condition}
use Rattle.step_plan.specs.Outcome.{ended_view}
use Rattle.step_run.specs.Checked.{goals_proved}
use Rattle.step_run.specs.Views.{posed_view}
use Rattle.step_run.proofs.Slices.{come_to_end, come_over}
use Rattle.step_run.proofs.Passing.{come_past}
use Rattle.step_run.proofs.verifying.verified.Goals as goal

pub loop-place-preserved : goal.loop-place-preserved
loop-place-preserved g c = come_past (posed_view c.args.posed.now) c.loop-place.place c.in-On.next c.loop-place.invariant (rw c.in-On.is at c.in_ok-next.ensures)

pub returns-in-Over : goal.returns-in-Over
returns-in-Over g c =
    let x = posed_view c.args.posed.now in
    come_over x c.loop-place.place (λ ts. Unit {0}) (λ ts. goals_proved x) (ended_view c.in-Over.ended) c.loop-place.invariant (rw c.in-Over.is at c.in_ok-next.ensures)

pub returns : goal.returns
returns g c =
    let x = posed_view c.args.posed.now in
    let size = length-map c.args.posed.now.conditions.items plain_condition in
    let done = come_to_end x c.loop-place.place (λ ts. Unit {0}) (λ ts. goals_proved x) (omega (arith, size)) c.loop-place.invariant in
    IfOk-weaker c.goals_proved.result _ _ (λ e h. h ∙ sym done.2) c.goals_proved.ensures
