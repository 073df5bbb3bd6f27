use Rattle.std.proofs.Common.{◌≡◌, ◌++◌, [], length, map, drop}
use Rattle.transition_system.specs.Plain.{plain_mode}
use Rattle.equation_laws.specs.Rows.{mode_rows}
use Rattle.linear_invariants.proofs.requirements.push_transition_rows.Given as goal

abbrev pub invariant-loop-mode : goal.invariant-loop-mode
invariant-loop-mode l =
    l.rows.items ++ mode_rows (length l.truths) l.locations (map plain_mode (drop l.mode-index l.modes)) []
    ≡ l.fn.rows.items ++ mode_rows (length l.truths) l.locations (map plain_mode l.modes) []
