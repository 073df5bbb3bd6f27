use Rattle.std.proofs.Common.{arith, ◌^◌}
use Rattle.st_linear.proofs.Withins.{are_within-at}
use Rattle.lean_elimination.proofs.Narrowing.{zero-within, to_z-narrow}
use Rattle.lean_elimination.proofs.factors.part.Goals as goal

pub returns-then-e-var-clause-within : goal.returns-then-e-var-clause-within
returns-then-e-var-clause-within c =
    let h = are_within-at (2 ^ 62) c.args.entries.now c.loop-e.e-index c.requires (omega arith) in
    rw (to_z-narrow (2 ^ 62) _ (omega arith) h) h

pub returns-clause-within : goal.returns-clause-within
returns-clause-within c = zero-within
