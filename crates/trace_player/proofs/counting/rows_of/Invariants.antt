use Rattle.std.proofs.Common.{◌≡◌, ◌++◌, map, drop}
use Rattle.trace_player.specs.Courses.{are_rows}
use Rattle.trace_player.proofs.counting.rows_of.Given as goal

abbrev pub invariant-loop-row : goal.invariant-loop-row
invariant-loop-row l = map (λ r. r.items) l.rows.items ++ are_rows l.names (drop l.row-index l.enabled) ≡ are_rows l.names l.enabled
