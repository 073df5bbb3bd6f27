use Rattle.std.proofs.Common.{arith}
use Rattle.std.proofs.lemmas.Result.{IfOk-weaker}
use Rattle.refuted_goals.proofs.Answers.{denies}
use Rattle.refuted_goals.proofs.Reading.{of_program}
use Rattle.refuted_goals.proofs.refuting.refutes.Goals as goal

pub returns-in-Ok-clause-exact : goal.returns-in-Ok-clause-exact
returns-in-Ok-clause-exact c =
    IfOk-weaker c.by_proof.result _ _ (λ b h. of_program c.in-Ok.source c.args.program.now c.args.proof.now c.args.schedule.now (omega (arith, c.if-proof-gt-LONGEST.false), omega (arith, c.if-schedule-gt-LONGEST.false)) c.in-Ok.ensures.made b h) c.by_proof.ensures

pub returns-in-Ok-clause-refuted : goal.returns-in-Ok-clause-refuted
returns-in-Ok-clause-refuted c =
    IfOk-weaker c.by_proof.result _ _ (λ b h e.
    c.what_fails_is_refuted.ensures c.args.program.now c.args.proof.now c.args.schedule.now
    ((of_program c.in-Ok.source c.args.program.now c.args.proof.now c.args.schedule.now (omega (arith, c.if-proof-gt-LONGEST.false), omega (arith, c.if-schedule-gt-LONGEST.false)) c.in-Ok.ensures.made b h).0 e)) c.by_proof.ensures

pub returns-in-Err-clause-exact : goal.returns-in-Err-clause-exact
returns-in-Err-clause-exact c =
    IfOk-weaker c.no_program.result _ _ (λ b h. denies b h.0 (λ r. h.1 c.args.program.now r.typed c.in-Err.ensures.refused r.is_program)) c.no_program.ensures
