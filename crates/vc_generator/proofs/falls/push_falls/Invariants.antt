use Rattle.std.proofs.Common.{◌≡◌, ◌++◌, map, take}
use Rattle.st_form.specs.Plain.{plain}
use Rattle.transition_system.specs.Plain.{plain_mode}
use Rattle.vc_generator.specs.Building.{falls_to}
use Rattle.vc_generator.proofs.falls.push_falls.Given as goal

abbrev pub invariant-loop-pair : goal.invariant-loop-pair
invariant-loop-pair l = map plain l.out.items ≡ map plain l.fn.out.items ++ map (falls_to (plain_mode l.fn.mode)) (take l.pair-index l.falls)
