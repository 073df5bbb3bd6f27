use Rattle.std.proofs.Common.{◌≡◌, map, take}
use Rattle.st_form.specs.Formula.{every, formulas}
use Rattle.st_form.specs.Plain.{plain}
use Rattle.transition_system.specs.Meaning.{enabling_of}
use Rattle.transition_system.specs.Plain.{plain_mode}
use Rattle.transition_system.proofs.transitions.enabled.Given as goal

abbrev pub invariant-loop-mode : goal.invariant-loop-mode
invariant-loop-mode l = map plain l.ways.items ≡ map (λ m. every (formulas (enabling_of m))) (map plain_mode (take l.mode-index l.fn.transition.modes.items))
