use Rattle.std.proofs.Common.{arith, ap, ◌^◌}
use mir.Syntax.{w64}
use mir.Val.{of_z}
use Rattle.std.proofs.lemmas.Bool.Decides.{nat_tests}
use Rattle.lean_elimination.proofs.Growing.{row-is}
use Rattle.lean_elimination.proofs.Narrowing.{to_z-narrow, narrow-zero}
use Rattle.lean_elimination.proofs.Fates.{fate-stays, fate-below, fate-none, fate-above, fate-holds}
use Rattle.lean_elimination.proofs.placing.fate_at.Goals as goal

pub returns-then-not-is_empty : goal.returns-then-not-is_empty
returns-then-not-is_empty c =
    let r = c.index-row.result.now in
    rw (row-is c.args.arena.now.rows.items c.args.k r c.requires c.index-row.ensures) (fate-stays _ r.entries.items r.constant r.equal (grind (arith, nat_tests)))

pub returns-then-row-lt0 : goal.returns-then-row-lt0
returns-then-row-lt0 c =
    let r = c.index-row.result.now in
    rw (row-is c.args.arena.now.rows.items c.args.k r c.requires c.index-row.ensures) (fate-below _ r.entries.items r.constant r.equal (grind (arith, nat_tests)) (rw (to_z-narrow (2 ^ 62) r.constant (omega arith) r.constant_within) at c.if-row-lt0.true))

pub returns-then-row-eq0 : goal.returns-then-row-eq0
returns-then-row-eq0 c =
    let r = c.index-row.result.now in
    rw (row-is c.args.arena.now.rows.items c.args.k r c.requires c.index-row.ensures) (fate-none _ r.entries.items r.constant r.equal (grind (arith, nat_tests)) (narrow-zero (2 ^ 62) r.constant (omega arith) r.constant_within c.if-row-eq0.true))

pub returns-then-row : goal.returns-then-row
returns-then-row c =
    let r = c.index-row.result.now in
    rw (row-is c.args.arena.now.rows.items c.args.k r c.requires c.index-row.ensures) (fate-above _ r.entries.items r.constant r.equal (grind (arith, nat_tests)) (rw (to_z-narrow (2 ^ 62) r.constant (omega arith) r.constant_within) at c.if-row-lt0.false) (λ z. c.if-row-eq0.false (ap (of_z w64) z)) c.if-row.true)

pub returns-else-row : goal.returns-else-row
returns-else-row c =
    let r = c.index-row.result.now in
    rw (row-is c.args.arena.now.rows.items c.args.k r c.requires c.index-row.ensures) (fate-holds _ r.entries.items r.constant r.equal (grind (arith, nat_tests)) (rw (to_z-narrow (2 ^ 62) r.constant (omega arith) r.constant_within) at c.if-row-lt0.false) c.if-row.false)
