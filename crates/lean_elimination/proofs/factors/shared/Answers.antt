use Rattle.std.proofs.Common.{arith, ◌^◌}
use Rattle.lean_elimination.proofs.Narrowing.{to_z-narrow}
use Rattle.row_elimination.proofs.Factors.{shared-is, gcd-positive, not_zero-positive}
use Rattle.lean_elimination.proofs.factors.shared.Goals as goal

pub returns-clause-value : goal.returns-clause-value
returns-clause-value c =
    let a = to_z-narrow (2 ^ 62) c.args.a.now (omega arith) c.requires.a_within in
    let b = to_z-narrow (2 ^ 62) c.args.c.now (omega arith) c.requires.c_within in
    shared-is c.args.a.now c.args.c.now c.gcd.result c.requires.a c.requires.c (rw (c.unsigned_abs.ensures.value, c.unsigned_abs-2.ensures.value, a, b) at c.gcd.ensures)

pub returns-clause-positive : goal.returns-clause-positive
returns-clause-positive c =
    let a = to_z-narrow (2 ^ 62) c.args.a.now (omega arith) c.requires.a_within in
    let b = to_z-narrow (2 ^ 62) c.args.c.now (omega arith) c.requires.c_within in
    not_zero-positive _ (gcd-positive c.args.a.now c.args.c.now c.gcd.result c.requires.a (rw (c.unsigned_abs.ensures.value, c.unsigned_abs-2.ensures.value, a, b) at c.gcd.ensures))
