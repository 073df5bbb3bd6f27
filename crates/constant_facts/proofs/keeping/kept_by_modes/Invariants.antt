use Rattle.std.proofs.Common.{◌≡◌, drop, map}
use Rattle.transition_system.specs.Plain.{plain_mode}
use Rattle.constant_facts.specs.Rules.{kept_by_all}
use Rattle.constant_facts.proofs.keeping.kept_by_modes.Given as goal

abbrev pub invariant-loop-mode : goal.invariant-loop-mode
invariant-loop-mode l =
    kept_by_all l.components (map plain_mode (drop l.mode-index l.modes)) l.left.items
    ≡ kept_by_all l.components (map plain_mode l.modes) l.fn.facts.items
