use Rattle.std.proofs.Common.{◌+◌, map, drop}
use Rattle.transition_system.specs.Plain.{plain_mode, plain_transition}
use Rattle.vc_generator.specs.Plain.{plain_list}
use Rattle.vc_generator.specs.Walks.{numbered_from}
use Rattle.vc_generator.proofs.Growing.{Left}
use Rattle.vc_generator.proofs.walk.each_of.Given as goal

abbrev pub invariant-loop-index : goal.invariant-loop-index
invariant-loop-index g l =
    Left (plain_list l.fn.out) (plain_list l.out)
    (numbered_from (λ k m. g.P.PerMode.asks l.fn.rule l.fn.number (plain_transition l.fn.transition) k m) 1 (map plain_mode l.fn.transition.modes.items))
    (numbered_from (λ k m. g.P.PerMode.asks l.fn.rule l.fn.number (plain_transition l.fn.transition) k m) (l.index + 1) (map plain_mode (drop l.index l.fn.transition.modes.items)))
