use Rattle.std.proofs.Common.{◌≡◌, map, take}
use Rattle.st_form.specs.Formula.{at}
use Rattle.st_form.specs.Plain.{plain}
use Rattle.spl_translation.proofs.translation.beginning.Given as goal

abbrev pub invariant-loop-location : goal.invariant-loop-location
invariant-loop-location l = map plain l.parts.items ≡ map (λ k. at k) (take l.location-index l.location-items)
