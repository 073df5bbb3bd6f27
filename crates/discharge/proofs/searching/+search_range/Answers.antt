use Rattle.std.proofs.Common.{◌∙◌, sym, arith}
use Rattle.farkas_check.specs.PlainProblem.{setting}
use Rattle.discharge.proofs.Numbers.{each-both}
use Rattle.discharge.proofs.Halves.{told}
use Rattle.discharge.proofs.searching.+search_range.Goals as goal

pub search_range-joined-requires : goal.search_range-joined-requires
search_range-joined-requires g t c =
    let left = told c.search_both-left.result.0 _ c.in_ok-left.left c.in_ok-left.was c.search_both-left.ensures.left in
    let right = told c.search_both-left.result.1 _ c.in_ok-right.right c.in_ok-right.was c.search_both-left.ensures.right in
    right.marks.each ∙ sym left.marks.each

pub search_range-returns-clause-marks : goal.search_range-returns-clause-marks
search_range-returns-clause-marks g t c =
    let k = setting c.args.components.now c.args.variables.now in
    let cs = c.args.conditions.now in
    let left = told c.search_both-left.result.0 _ c.in_ok-left.left c.in_ok-left.was c.search_both-left.ensures.left in
    let right = told c.search_both-left.result.1 _ c.in_ok-right.right c.in_ok-right.was c.search_both-left.ensures.right in
    c.joined.ensures k cs left right

pub search_range-returns-in_err-left-clause-ended : goal.search_range-returns-in_err-left-clause-ended
search_range-returns-in_err-left-clause-ended g t c =
    each-both c.args.range.first c.args.range.workers c.args.range.count (g.G.Gate.ended c.args.gate.now) (omega (arith, c.if-range-lt2.false)) (omega (arith, c.if-range-lt2-2.false))
    c.search_both-left.ensures.left_ended c.search_both-left.ensures.right_ended

pub search_range-returns-in_err-right-clause-ended : goal.search_range-returns-in_err-right-clause-ended
search_range-returns-in_err-right-clause-ended g t c =
    each-both c.args.range.first c.args.range.workers c.args.range.count (g.G.Gate.ended c.args.gate.now) (omega (arith, c.if-range-lt2.false)) (omega (arith, c.if-range-lt2-2.false))
    c.search_both-left.ensures.left_ended c.search_both-left.ensures.right_ended
