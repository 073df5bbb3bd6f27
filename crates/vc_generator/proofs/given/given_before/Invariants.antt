use Rattle.std.proofs.Common.{◌≡◌, ◌++◌, ◌∷◌, map, take}
use Rattle.st_form.specs.Formula.{at}
use Rattle.st_form.specs.Plain.{plain}
use Rattle.vc_generator.proofs.given.given_before.Given as goal

abbrev pub invariant-loop-location : goal.invariant-loop-location
invariant-loop-location l = map plain l.given.items ≡ map plain l.fn.lemmas ++ plain l.fn.before ∷ map (λ k. at k) (take l.location-index l.fn.mode.at.items)
