use Rattle.std.proofs.Common.{arith}
use Rattle.linear_prover.specs.Loops.{valued}
use Rattle.linear_prover.proofs.Standings.{values-more}
use Rattle.linear_prover.proofs.shown.values.Goals as goal

pub loop-v-preserved : goal.loop-v-preserved
loop-v-preserved c located =
    rw c.in_ok-push.ensures.items (values-more c.loop-v.store.items c.args.variables.now c.loop-v.v _ _ (valued c.args.truths.now c.args.point.now located) _ (omega arith) (c.value.ensures located) (c.loop-v.invariant located))
