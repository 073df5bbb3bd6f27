use Rattle.std.proofs.Common.{arith, ◌^◌}
use Rattle.st_linear.proofs.Withins.{are_within-at, to_z-within}
use Rattle.matrix_rows.proofs.Kept.{zero-within}
use Rattle.matrix_rows.proofs.row.part.Goals as goal

pub returns-then-e-column-clause-within : goal.returns-then-e-column-clause-within
returns-then-e-column-clause-within c =
    let h = are_within-at (2 ^ 100) c.args.entries.now c.loop-e.e-index c.requires (omega arith) in
    rw (to_z-within (2 ^ 100) _ (omega arith) h) h

pub returns-clause-within : goal.returns-clause-within
returns-clause-within c = zero-within
