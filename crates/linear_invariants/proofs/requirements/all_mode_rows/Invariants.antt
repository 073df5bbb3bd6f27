use Rattle.std.proofs.Common.{◌≡◌, ◌++◌, [], length, map, drop}
use Rattle.std.specs.Prelude.{flat_map}
use Rattle.transition_system.specs.Plain.{plain_transition}
use Rattle.equation_laws.specs.Rows.{mode_rows}
use Rattle.linear_invariants.proofs.requirements.all_mode_rows.Given as goal

abbrev pub invariant-loop-transition : goal.invariant-loop-transition
invariant-loop-transition l =
    l.rows.items ++ mode_rows (length l.truths) l.locations (flat_map (λ t. t.modes) (map plain_transition (drop l.transition-index l.transitions))) []
    ≡ mode_rows (length l.truths) l.locations (flat_map (λ t. t.modes) (map plain_transition l.transitions)) []
