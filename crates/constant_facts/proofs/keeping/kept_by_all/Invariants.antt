use Rattle.std.proofs.Common.{◌≡◌, drop, map}
use Rattle.std.specs.Prelude.{flat_map}
use Rattle.transition_system.specs.Plain.{plain_transition}
use Rattle.constant_facts.specs.Rules.{kept_by_all}
use Rattle.constant_facts.proofs.keeping.kept_by_all.Given as goal

abbrev pub invariant-loop-transition : goal.invariant-loop-transition
invariant-loop-transition l =
    kept_by_all l.components (flat_map (λ t. t.modes) (map plain_transition (drop l.transition-index l.transitions))) l.left.items
    ≡ kept_by_all l.components (flat_map (λ t. t.modes) (map plain_transition l.transitions)) l.fn.facts.items
