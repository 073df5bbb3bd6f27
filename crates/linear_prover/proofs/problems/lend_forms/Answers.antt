use Rattle.std.proofs.Common.{refl, arith}
use Rattle.linear_prover.proofs.Lending.{form-more, forms-done}
use Rattle.linear_prover.proofs.problems.lend_forms.Goals as goal

pub loop-f-preserved : goal.loop-f-preserved
loop-f-preserved c = rw c.in_ok-push.ensures.items (form-more c.loop-f.all.items c.args.fs.now c.loop-f.f-index c.f-item.result _ _ (omega arith) c.f-item.is refl c.loop-f.invariant)

pub returns : goal.returns
returns c = forms-done c.loop-f.all.items c.args.fs.now c.loop-f.f-index _ c.loop-f-test.false c.loop-f.invariant
