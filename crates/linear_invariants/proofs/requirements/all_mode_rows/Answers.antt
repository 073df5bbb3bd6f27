use Rattle.std.proofs.Common.{arith, length}
use Rattle.std.specs.Prelude.{All}
use Rattle.transition_system.specs.Bounds.{ModeWithin}
use Rattle.transition_system.specs.Plain.{plain_transition}
use Rattle.transition_system.specs.Systems.{PlainTransition}
use Rattle.linear_invariants.proofs.Loops.{at-item, transitions-next}
use Rattle.linear_invariants.proofs.requirements.all_mode_rows.Goals as goal

pub push_transition_rows-requires-clause-modes : goal.push_transition_rows-requires-clause-modes
push_transition_rows-requires-clause-modes c =
    rw c.deref.ensures.value
    (at-item (λ (t : PlainTransition). All (ModeWithin c.args.truths.now c.args.locations) t.modes) plain_transition c.args.transitions.now c.loop-transition.transition-index c.transition-item.result (omega arith) c.transition-item.is c.requires.modes)

pub loop-transition-preserved : goal.loop-transition-preserved
loop-transition-preserved c =
    rw (c.in_ok-push_transition_rows.ensures, c.deref.ensures.value)
    (transitions-next (length c.args.truths.now) c.args.locations c.loop-transition.transition-index c.args.transitions.now c.transition-item.result c.loop-transition.rows.items _ (omega arith) c.transition-item.is c.loop-transition.invariant)
