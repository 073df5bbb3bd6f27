use Rattle.std.proofs.Common.{subst, sym, arith, ◌^◌}
use Rattle.st_linear.specs.Answers.{Gives}
use Rattle.row_elimination.specs.Plain.{tracked_row}
use Rattle.st_linear.proofs.Withins.{to_z-within}
use Rattle.row_elimination.proofs.Withins.{to_z-narrow}
use Rattle.row_elimination.proofs.Factors.{paired-is, first-is, second-is}
use Rattle.row_elimination.proofs.mixing.paired.Goals as goal

pub returns : goal.returns
returns c =
    let a = to_z-within (2 ^ 100) c.part-a.result (omega arith) c.part-a.ensures.within in
    let b = to_z-within (2 ^ 100) c.part-c.result (omega arith) c.part-c.ensures.within in
    let x = to_z-narrow c.quotient-x.result c.quotient-x.type_inv in
    let y = to_z-narrow c.quotient-y.result c.quotient-y.type_inv in
    let g = rw (a, b) at c.shared-divisor.ensures.value in
    let e = paired-is c.args.var (tracked_row c.args.lower.now) (tracked_row c.args.upper.now) c.part-a.result c.part-c.result c.quotient-x.result c.quotient-y.result
    (sym (rw c.as_slice.ensures at c.part-a.ensures.value)) (sym (rw c.as_slice-2.ensures at c.part-c.ensures.value))
    (first-is c.part-a.result c.part-c.result c.quotient-x.result c.shared-divisor.result (rw b at c.quotient-x.ensures) g)
    (second-is c.part-a.result c.part-c.result c.quotient-y.result c.shared-divisor.result (rw a at c.quotient-y.ensures) g) in
    subst (λ o. Gives tracked_row c.mix.result o) e (rw (x, y) at c.mix.ensures)
