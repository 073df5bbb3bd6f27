use Rattle.std.proofs.Common.{map, drop}
use Rattle.transition_system.specs.Plain.{plain_transition}
use Rattle.vc_generator.specs.Plain.{plain_list}
use Rattle.vc_generator.specs.Walks.{numbered_from}
use Rattle.vc_generator.proofs.Growing.{Left}
use Rattle.vc_generator.proofs.walk.each_transition.Given as goal

abbrev pub invariant-loop-index : goal.invariant-loop-index
invariant-loop-index g l =
    Left (plain_list l.fn.out) (plain_list l.out)
    (numbered_from (λ n t. numbered_from (λ k m. g.P.PerMode.asks l.fn.rule n t k m) 1 t.modes) 0 (map plain_transition l.fn.transitions))
    (numbered_from (λ n t. numbered_from (λ k m. g.P.PerMode.asks l.fn.rule n t k m) 1 t.modes) l.index (map plain_transition (drop l.index l.fn.transitions)))
