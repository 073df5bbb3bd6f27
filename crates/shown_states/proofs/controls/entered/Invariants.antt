use Rattle.std.proofs.Common.{◌≡◌, drop}
use Rattle.shown_states.specs.Places.{entered}
use Rattle.shown_states.proofs.controls.entered.Given as goal

abbrev pub invariant-loop-location : goal.invariant-loop-location
invariant-loop-location l = entered l.owners l.component (drop l.location-index l.locations) ≡ entered l.owners l.component l.locations
