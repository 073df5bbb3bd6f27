use Rattle.std.proofs.Common.{arith}
use Rattle.constant_facts.proofs.Loops.{transitions-next}
use Rattle.constant_facts.proofs.keeping.kept_by_all.Goals as goal

pub loop-transition-preserved : goal.loop-transition-preserved
loop-transition-preserved c =
    rw (c.in_ok-left.ensures, c.deref.ensures.value)
    (transitions-next c.args.components.now c.loop-transition.transition-index c.args.transitions.now c.transition-item.result c.loop-transition.left.items _ (omega arith) c.transition-item.is c.loop-transition.invariant)
