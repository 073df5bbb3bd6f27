use Rattle.std.proofs.Common.{subst, sym, ap, arith, ◌^◌}
use mir.Syntax.{w128}
use mir.Val.{of_z}
use Rattle.st_linear.specs.Answers.{Gives}
use Rattle.row_elimination.specs.Plain.{tracked_row}
use Rattle.st_linear.proofs.Withins.{to_z-within}
use Rattle.row_elimination.proofs.Withins.{to_z-narrow}
use Rattle.row_elimination.proofs.Factors.{freed-is, first-is, not-zero}
use Rattle.row_elimination.proofs.mixing.freed.Goals as goal

pub returns : goal.returns
returns c =
    let a = to_z-within (2 ^ 100) c.part-a.result (omega arith) c.part-a.ensures.within in
    let b = to_z-within (2 ^ 100) c.part-c.result (omega arith) c.part-c.ensures.within in
    let x = to_z-narrow c.quotient-x.result c.quotient-x.type_inv in
    let y = to_z-narrow c.against-y.result c.against-y.type_inv in
    let e = freed-is c.args.var (tracked_row c.args.equation.now) (tracked_row c.args.line) c.part-a.result c.part-c.result c.quotient-x.result c.against-y.result
    (sym (rw c.as_slice.ensures at c.part-a.ensures.value)) (sym (rw c.as_slice-2.ensures at c.part-c.ensures.value))
    (not-zero c.part-a.result (λ e. c.if-a-eq0.false (ap (of_z w128) e)))
    (first-is c.part-a.result c.part-c.result c.quotient-x.result c.shared-divisor.result (rw b at c.quotient-x.ensures) (rw (a, b) at c.shared-divisor.ensures.value))
    (rw (a, b) at c.against-y.ensures) in
    subst (λ o. Gives tracked_row c.mix.result o) e (rw (x, y) at c.mix.ensures)
