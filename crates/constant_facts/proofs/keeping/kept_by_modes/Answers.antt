use Rattle.std.proofs.Common.{arith}
use Rattle.constant_facts.proofs.Loops.{modes-next}
use Rattle.constant_facts.proofs.keeping.kept_by_modes.Goals as goal

pub loop-mode-preserved : goal.loop-mode-preserved
loop-mode-preserved c =
    rw (c.in_ok-left.ensures, c.deref.ensures.value)
    (modes-next c.args.components.now c.loop-mode.mode-index c.args.modes.now c.mode-item.result c.loop-mode.left.items _ (omega arith) c.mode-item.is c.loop-mode.invariant)
