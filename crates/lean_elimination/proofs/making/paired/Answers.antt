use Rattle.std.proofs.Common.{arith, sym, subst, ◌∙◌, ◌^◌, IfOk}
use Rattle.row_elimination.proofs.Factors.{paired-is, first-is, second-is}
use Rattle.lean_elimination.specs.Arenas.{tracks, row_at, IsMade}
use Rattle.lean_elimination.proofs.Narrowing.{to_z-narrow, to_z-whole}
use Rattle.lean_elimination.proofs.making.paired.Goals as goal

pub returns : goal.returns
returns c =
    let rs = c.args.arena.now.rows.items in
    let p = row_at (tracks rs) c.args.lower in
    let n = row_at (tracks rs) c.args.upper in
    let a = to_z-narrow (2 ^ 62) c.part_at-a.result (omega arith) c.part_at-a.ensures.within in
    let b = to_z-narrow (2 ^ 62) c.part_at-c.result (omega arith) c.part_at-c.ensures.within in
    let x = to_z-whole c.quotient-x.result c.quotient-x.type_inv in
    let y = to_z-whole c.quotient-y.result c.quotient-y.type_inv in
    let g = rw (a, b) at c.shared-divisor.ensures.value in
    let f = paired-is c.args.var p n c.part_at-a.result c.part_at-c.result c.quotient-x.result c.quotient-y.result
    (sym c.part_at-a.ensures.value) (sym c.part_at-c.ensures.value)
    (first-is c.part_at-a.result c.part_at-c.result c.quotient-x.result c.shared-divisor.result (rw b at c.quotient-x.ensures) g)
    (second-is c.part_at-a.result c.part_at-c.result c.quotient-y.result c.shared-divisor.result (rw a at c.quotient-y.ensures) g) in
    let m = rw (x, y) at c.in_ok-row.ensures.same in
    subst (λ o. IfOk c.add.result (λ m. IsMade rs c.add.new.arena.rows.items m o)) (sym m ∙ f) c.add.ensures
