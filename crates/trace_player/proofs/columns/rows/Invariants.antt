use Rattle.std.proofs.Common.{◌≡◌, ◌++◌, map, drop}
use Rattle.st_form.specs.Plain.{plain}
use Rattle.trace_player.specs.Columns.{sights, column, some_wide, row_of}
use Rattle.trace_player.proofs.columns.rows.Given as goal

abbrev pub invariant-loop-position : goal.invariant-loop-position
invariant-loop-position l =
    map (λ r. r.items) l.rows.items ++ column (some_wide (map plain l.forms)) (row_of (map plain l.forms)) (sights (drop l.position l.states) (drop l.position l.fronts))
    ≡ column (some_wide (map plain l.forms)) (row_of (map plain l.forms)) (sights l.states l.fronts)
