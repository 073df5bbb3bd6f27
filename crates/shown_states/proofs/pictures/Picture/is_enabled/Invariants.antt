use Rattle.shown_states.proofs.Enabled.{SoFar}
use Rattle.shown_states.proofs.pictures.Picture.is_enabled.Given as goal

abbrev pub invariant-loop-mode : goal.invariant-loop-mode
invariant-loop-mode l = SoFar l.self l.transition.modes.items l.mode-index l.wide
