use Rattle.std.proofs.Common.{◌≡◌, drop}
use Rattle.shown_states.specs.Places.{place_of}
use Rattle.shown_states.proofs.controls.place_of.Given as goal

abbrev pub invariant-loop-entry : goal.invariant-loop-entry
invariant-loop-entry l = place_of l.component (drop l.entry-index l.control) ≡ place_of l.component l.control
