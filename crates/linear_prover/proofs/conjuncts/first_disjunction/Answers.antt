use Rattle.std.proofs.Common.{arith}
use Rattle.linear_prover.proofs.Lending.{past}
use Rattle.linear_prover.proofs.conjuncts.first_disjunction.Goals as goal

pub loop-place-preserved : goal.loop-place-preserved
loop-place-preserved c = past c.args.fs.now c.loop-place.place c.index-fs-place.result _ _ (omega arith) c.index-fs-place.is c.form.ensures c.in_default.ensures c.loop-place.invariant
