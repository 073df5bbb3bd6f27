use Rattle.std.proofs.Common.{◌≡◌, drop}
use Rattle.elimination_laws.specs.Mixing.{part}
use Rattle.matrix_rows.proofs.row.part.Given as goal

abbrev pub invariant-loop-e : goal.invariant-loop-e
invariant-loop-e l = part l.column (drop l.e-index l.entries) ≡ part l.column l.entries
