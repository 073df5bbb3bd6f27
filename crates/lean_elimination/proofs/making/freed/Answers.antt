use Rattle.std.proofs.Common.{arith, ap, sym, subst, ◌∙◌, ◌^◌, IfOk}
use mir.Syntax.{w64}
use mir.Val.{of_z}
use Rattle.row_elimination.proofs.Factors.{freed-is, first-is, not-zero}
use Rattle.lean_elimination.specs.Arenas.{tracks, row_at, IsMade}
use Rattle.lean_elimination.proofs.Growing.{row-is}
use Rattle.lean_elimination.proofs.Narrowing.{to_z-narrow, to_z-whole}
use Rattle.lean_elimination.proofs.making.freed.Goals as goal

pub returns : goal.returns
returns c =
    let rs = c.args.arena.now.rows.items in
    let t = row_at (tracks rs) c.args.k in
    let e = row_at (tracks rs) c.args.equation in
    let a = to_z-narrow (2 ^ 62) c.part_at-a.result (omega arith) c.part_at-a.ensures.within in
    let b = to_z-narrow (2 ^ 62) c.part_at-c.result (omega arith) c.part_at-c.ensures.within in
    let x = to_z-whole c.quotient-x.result c.quotient-x.type_inv in
    let y = to_z-whole c.against-y.result c.against-y.type_inv in
    let q = ap (λ u. u.equal) (row-is rs c.args.k c.index.result.now c.requires.line c.index.ensures) in
    let f = freed-is c.args.var e t c.part_at-a.result c.part_at-c.result c.quotient-x.result c.against-y.result
    (sym c.part_at-a.ensures.value) (sym c.part_at-c.ensures.value)
    (not-zero c.part_at-a.result (λ e. c.if-a-eq0.false (ap (of_z w64) e)))
    (first-is c.part_at-a.result c.part_at-c.result c.quotient-x.result c.shared-divisor.result (rw b at c.quotient-x.ensures) (rw (a, b) at c.shared-divisor.ensures.value))
    (rw (a, b) at c.against-y.ensures) in
    let m = rw (x, y, ← q) at c.in_ok-row.ensures.same in
    subst (λ o. IfOk c.add.result (λ m. IsMade rs c.add.new.arena.rows.items m o)) (sym m ∙ f) c.add.ensures
