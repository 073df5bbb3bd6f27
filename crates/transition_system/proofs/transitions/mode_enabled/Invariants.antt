use Rattle.std.proofs.Common.{◌≡◌, map, take}
use Rattle.st_form.specs.Formula.{at}
use Rattle.st_form.specs.Plain.{plain}
use Rattle.transition_system.proofs.transitions.mode_enabled.Given as goal

abbrev pub invariant-loop-location : goal.invariant-loop-location
invariant-loop-location l = map plain l.parts.items ≡ map (λ k. at k) (take l.location-index l.fn.mode.at.items)
