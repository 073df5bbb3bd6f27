use Rattle.std.proofs.Common.{arith, length}
use Rattle.transition_system.specs.Bounds.{ModeWithin}
use Rattle.transition_system.specs.Plain.{plain_mode}
use Rattle.linear_invariants.proofs.Loops.{at-item, modes-next}
use Rattle.linear_invariants.proofs.requirements.push_transition_rows.Goals as goal

pub push_mode_rows-requires-clause-mode : goal.push_mode_rows-requires-clause-mode
push_mode_rows-requires-clause-mode c =
    at-item (ModeWithin c.args.truths.now c.args.locations) plain_mode c.args.modes.now c.loop-mode.mode-index c.mode-item.result (omega arith) c.mode-item.is c.requires.modes

pub loop-mode-preserved : goal.loop-mode-preserved
loop-mode-preserved c =
    rw c.in_ok-push_mode_rows.ensures
    (modes-next (length c.args.truths.now) c.args.locations c.loop-mode.mode-index c.args.modes.now c.mode-item.result c.loop-mode.rows.items _ (omega arith) c.mode-item.is c.loop-mode.invariant)
