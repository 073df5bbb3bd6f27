use Rattle.std.proofs.Common.{refl, arith}
use Rattle.st_form.specs.Plain.{plain}
use Rattle.linear_prover.proofs.Lending.{lent-more, lent-done}
use Rattle.linear_prover.proofs.problems.lend.Goals as goal

pub loop-f-preserved : goal.loop-f-preserved
loop-f-preserved c =
    rw c.in_ok-push.ensures.items (lent-more c.loop-f.all.items c.args.fs.now c.loop-f.f-index c.f-item.result _ (plain c.form-lent.result.now) _ (omega arith) c.f-item.is c.form-lent.ensures refl c.loop-f.invariant)

pub returns : goal.returns
returns c = lent-done c.loop-f.all.items c.args.fs.now c.loop-f.f-index _ c.loop-f-test.false c.loop-f.invariant
