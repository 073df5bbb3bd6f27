use Rattle.std.proofs.Common.{◌≡◌, ap, ℕ, ◌+◌, ◌-◌, ◌*◌, ◌/◌, ◌<◌, List, drop, sym, subst, arith, rules}
use Rattle.st_form.specs.declared.conditions.Condition.{Condition}
use Rattle.std.specs.Prelude.{Option}
use Rattle.farkas_check.specs.Problem.{Setting}
use Rattle.farkas_check.specs.PlainProblem.{setting}
use Rattle.discharge.specs.declared.shares.Share.{Share}
use Rattle.discharge.specs.Dealt.{dealt, right_half}
use Rattle.block_validity.specs.First.{AreCheckable, IsFirstFailing}
use Rattle.discharge.proofs.Numbers.{each-both}
use Rattle.discharge.proofs.Halves.{failing-dealt, right-checkable, first-fits, between-fits, told}
use Rattle.discharge.proofs.checking.+check_range.Goals as goal

pub check_range-lesser_place-requires-clause-first : goal.check_range-lesser_place-requires-clause-first
check_range-lesser_place-requires-clause-first g t c =
    first-fits (setting c.args.components.now c.args.variables.now) c.args.share c.args.conditions.now (dealt (right_half c.args.share) c.args.blocks.now) c.in_ok-right.right
    (told c.check_both-left.result.1 _ c.in_ok-right.right c.in_ok-right.was c.check_both-left.ensures.right)

pub check_range-lesser_place-requires-clause-second : goal.check_range-lesser_place-requires-clause-second
check_range-lesser_place-requires-clause-second g t c =
    between-fits (setting c.args.components.now c.args.variables.now) c.args.share _ _ c.in_ok-left.left
    (told c.check_both-left.result.0 _ c.in_ok-left.left c.in_ok-left.was c.check_both-left.ensures.left)

pub check_range-returns-clause-first_failing : goal.check_range-returns-clause-first_failing
check_range-returns-clause-first_failing g t c =
    let k : Setting = setting c.args.components.now c.args.variables.now in
    let share = c.args.share in
    subst (λ (o : Option ℕ). IsFirstFailing k (dealt share c.args.conditions.now) (dealt share c.args.blocks.now) o) (sym c.lesser_place.ensures)
    (failing-dealt k share c.args.conditions.now c.args.blocks.now c.in_ok-right.right c.in_ok-left.left
    (told c.check_both-left.result.1 _ c.in_ok-right.right c.in_ok-right.was c.check_both-left.ensures.right)
    (told c.check_both-left.result.0 _ c.in_ok-left.left c.in_ok-left.was c.check_both-left.ensures.left))

pub check_range-returns-clause-ended : goal.check_range-returns-clause-ended
check_range-returns-clause-ended g t c =
    each-both c.args.share.first c.args.share.workers c.args.share.count (g.G.Gate.ended c.args.gate.now) (omega (arith, c.if-share-lt2.false)) (omega (arith, c.if-share-lt2-2.false))
    c.check_both-left.ensures.left_ended c.check_both-left.ensures.right_ended

pub check_both-join-requires-after_bounds : goal.check_both-join-requires-after_bounds
check_both-join-requires-after_bounds g t c κs within =
    let w = c.args.share.workers in
    let left_workers : c.halves.result.0.workers ≡ w / 2 = ap (λ (h : Share). h.workers) c.halves.ensures.left in
    let left_first : c.halves.result.0.first ≡ c.args.share.first = ap (λ (h : Share). h.first) c.halves.ensures.left in
    let right_workers : c.halves.result.1.workers ≡ w - w / 2 = ap (λ (h : Share). h.workers) c.halves.ensures.right in
    let right_first : c.halves.result.1.first ≡ c.args.share.first + w / 2 = ap (λ (h : Share). h.first) c.halves.ensures.right in
    let left : 4 * c.halves.result.0.workers + 4 < t = omega (arith, c.decreases, c.requires.some, left_workers) in
    let right : 4 * c.halves.result.1.workers + 4 < t = omega (arith, c.decreases, c.requires.some, right_workers) in
    let s = c.args.share.stride in
    let between : AreCheckable c.behind-between.result.now c.behind-their_blocks.result.now =
    subst (λ (l : List Condition). AreCheckable l c.behind-their_blocks.result.now) (sym c.behind-between.ensures)
    (subst (AreCheckable (drop s c.args.conditions.now)) (sym c.behind-their_blocks.ensures) (right-checkable s c.args.conditions.now c.args.blocks.now c.requires.checkable)) in (
      (left, (λ a m. m, (λ a m. m, ((search rules, search rules, omega (arith, c.requires.pieces, left_workers, left_first), c.halves.ensures.left_stride, between), (search rules, search rules))))),
      (right, (λ a m. m, (λ a m. m, ((search rules, search rules, omega (arith, c.requires.pieces, c.requires.some, right_workers, right_first), c.halves.ensures.right_stride, c.requires.checkable), (search rules, search rules))))),
    )
