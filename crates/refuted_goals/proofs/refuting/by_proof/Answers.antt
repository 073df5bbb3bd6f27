use Rattle.std.proofs.Common.{subst}
use Rattle.std.proofs.lemmas.Result.{IfOk-weaker}
use Rattle.st_reading.specs.Reading.{IsStop}
use Rattle.temporal_goals.specs.Plain.{plain_script}
use Rattle.proof_script.specs.Faults.{see}
use Rattle.refuted_goals.proofs.Answers.{denies}
use Rattle.refuted_goals.proofs.Reading.{of_proof}
use Rattle.refuted_goals.proofs.refuting.by_proof.Goals as goal

pub returns-in-Ok : goal.returns-in-Ok
returns-in-Ok c =
    let fails = rw c.deref.ensures.value at c.by_schedule.ensures in
    IfOk-weaker c.by_schedule.result _ _ (λ b h. of_proof c.args.source.now c.args.proof.now c.args.schedule.now (plain_script c.in-Ok.script) c.in-Ok.ensures b h) fails

pub returns-in-Err : goal.returns-in-Err
returns-in-Err c =
    IfOk-weaker c.no_script.result _ _ (λ b h. denies b h.0 (λ p. h.1 p.0 (subst (IsStop (see c.in-Err.fault)) p.1 c.in-Err.ensures))) c.no_script.ensures
