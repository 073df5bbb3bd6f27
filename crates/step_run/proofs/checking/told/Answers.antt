use Rattle.std.proofs.Common.{◌+◌, ◌-◌, ◌≡◌, refl, arith}
use Rattle.std.proofs.lemmas.Result.{IfOk-weaker}
use Rattle.step_plan.specs.Outcome.{ended_view}
use Rattle.step_run.specs.Views.{posed_view}
use Rattle.step_run.proofs.Filed.{discharged_is, refused_is}
use Rattle.step_run.proofs.checking.told.Goals as goal

pub returns-in-Discharged : goal.returns-in-Discharged
returns-in-Discharged c =
    let x = posed_view c.args.posed.now in
    IfOk-weaker c.ending.result _ _ (λ e h. λ text found. discharged_is x c.in-Discharged.trailing (ended_view e) h text (rw c.in-Discharged.is at found)) c.ending.ensures

pub returns-in-Refused : goal.returns-in-Refused
returns-in-Refused c =
    let x = posed_view c.args.posed.now in
    let among = rw c.in-Refused.is at c.requires.among in
    let counted : c.in-Refused.number - 1 + 1 ≡ c.in-Refused.number = omega (arith, among.0) in
    IfOk-weaker c.not_proved.result _ _
    (λ e h. λ text found. refused_is x c.args.posed.now.conditions.items c.in-Refused.number (c.in-Refused.number - 1) c.in-Refused.reason (ended_view e) refl counted (omega (arith, among.0, among.1)) h text (rw c.in-Refused.is at found))
    c.not_proved.ensures
