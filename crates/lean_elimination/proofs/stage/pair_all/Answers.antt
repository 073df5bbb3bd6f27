use Rattle.std.proofs.Common.{arith, ap, sym, ◌∙◌, ◌+◌, length, get_or, drop, true, false}
use Rattle.std.proofs.lemmas.Result.{err_from_is_err_and}
use Rattle.elimination_laws.specs.Mixing.{is_up}
use Rattle.elimination_laws.specs.Stages.{pairs, kept_by, bounds_above, bounds_below}
use Rattle.row_elimination.specs.Places.{sift_from}
use Rattle.lean_elimination.specs.Arenas.{tracks, row_at, listed}
use Rattle.lean_elimination.proofs.Growing.{under-at, under-more, grown-then}
use Rattle.lean_elimination.proofs.Solvers.{listed-at}
use Rattle.lean_elimination.proofs.Putting.{kept-yes, kept-no}
use Rattle.lean_elimination.proofs.Stepping.{side-of, is-above-zero, pairs-ok, pairs-stops, pairs-old}
use Rattle.lean_elimination.proofs.stage.pair_all.Goals as goal
use Rattle.lean_elimination.proofs.stage.pair_all.Goals.{then-part_at-gt0+in_ok-pair_with, else-part_at-gt0}

pub part_at-requires : goal.part_at-requires
part_at-requires c = omega (arith, (under-at (length c.args.arena.now.rows.items) c.args.list.now c.loop-lower.lower-index 0 c.requires.list (omega arith)), c.loop-lower.invariant.grown.longer)

pub pair_with-requires-clause-lower : goal.pair_with-requires-clause-lower
pair_with-requires-clause-lower c = omega (arith, (under-at (length c.args.arena.now.rows.items) c.args.list.now c.loop-lower.lower-index 0 c.requires.list (omega arith)), c.loop-lower.invariant.grown.longer)

pub pair_with-requires-clause-list : goal.pair_with-requires-clause-list
pair_with-requires-clause-list c = under-more (length c.args.arena.now.rows.items) _ c.args.list.now c.loop-lower.invariant.grown.longer c.requires.list

pub returns-in_err-pair_with : goal.returns-in_err-pair_with
returns-in_err-pair_with c =
    let p = err_from_is_err_and c.from_residual.result c.from_residual.ensures.1 in
    rw (p.1, p.2) (pairs-stops c.args.var (row_at (tracks c.args.arena.now.rows.items) (get_or c.args.list.now c.loop-lower.lower-index 0)) (kept_by (bounds_below c.args.var) (listed (tracks c.args.arena.now.rows.items) (drop c.loop-lower.lower-index c.args.list.now))) (kept_by (bounds_below c.args.var) (listed (tracks c.args.arena.now.rows.items) (drop (c.loop-lower.lower-index + 1) c.args.list.now))) (kept_by (bounds_above c.args.var) (listed (tracks c.args.arena.now.rows.items) c.args.list.now)) (listed (tracks c.loop-lower.arena.rows.items) c.loop-lower.next.items) _ c.in_err-pair_with.field-0.0 _ (kept-yes (bounds_below c.args.var) (row_at (tracks c.args.arena.now.rows.items) (get_or c.args.list.now c.loop-lower.lower-index 0)) (listed (tracks c.args.arena.now.rows.items) (drop (c.loop-lower.lower-index + 1) c.args.list.now)) (listed (tracks c.args.arena.now.rows.items) (drop c.loop-lower.lower-index c.args.list.now)) (listed-at (tracks c.args.arena.now.rows.items) c.args.list.now c.loop-lower.lower-index 0 (omega arith)) (side-of is_up true c.args.var c.args.arena.now.rows.items c.loop-lower.arena.rows.items (get_or c.args.list.now c.loop-lower.lower-index 0) c.part_at.result c.loop-lower.invariant.grown (under-at (length c.args.arena.now.rows.items) c.args.list.now c.loop-lower.lower-index 0 c.requires.list (omega arith)) c.part_at.ensures.value (is-above-zero true c.part_at.result c.part_at.ensures.within c.if-part_at-gt0.true))) c.loop-lower.invariant.same (rw (pairs-old c.args.var c.args.arena.now.rows.items c.loop-lower.arena.rows.items (get_or c.args.list.now c.loop-lower.lower-index 0) c.args.list.now c.loop-lower.invariant.grown (under-at (length c.args.arena.now.rows.items) c.args.list.now c.loop-lower.lower-index 0 c.requires.list (omega arith)) c.requires.list) at c.in_err-pair_with.ensures))

pub loop-lower-preserved : goal.loop-lower-preserved
loop-lower-preserved c = elim c.if-part_at-gt0.branch [
  | then-part_at-gt0+in_ok-pair_with w ↦ rw (w.arena-is, w.next-is) record {
    grown = grown-then c.args.arena.now.rows.items c.loop-lower.arena.rows.items w.pair_with.new.arena.rows.items c.loop-lower.invariant.grown w.in_ok-pair_with.ensures.grown;
    under = w.in_ok-pair_with.ensures.under;
    same = pairs-ok c.args.var (row_at (tracks c.args.arena.now.rows.items) (get_or c.args.list.now c.loop-lower.lower-index 0)) (kept_by (bounds_below c.args.var) (listed (tracks c.args.arena.now.rows.items) (drop c.loop-lower.lower-index c.args.list.now))) (kept_by (bounds_below c.args.var) (listed (tracks c.args.arena.now.rows.items) (drop (c.loop-lower.lower-index + 1) c.args.list.now))) (kept_by (bounds_above c.args.var) (listed (tracks c.args.arena.now.rows.items) c.args.list.now)) (listed (tracks c.loop-lower.arena.rows.items) c.loop-lower.next.items) (listed (tracks w.pair_with.new.arena.rows.items) w.pair_with.new.next.items) _ (kept-yes (bounds_below c.args.var) (row_at (tracks c.args.arena.now.rows.items) (get_or c.args.list.now c.loop-lower.lower-index 0)) (listed (tracks c.args.arena.now.rows.items) (drop (c.loop-lower.lower-index + 1) c.args.list.now)) (listed (tracks c.args.arena.now.rows.items) (drop c.loop-lower.lower-index c.args.list.now)) (listed-at (tracks c.args.arena.now.rows.items) c.args.list.now c.loop-lower.lower-index 0 (omega arith)) (side-of is_up true c.args.var c.args.arena.now.rows.items c.loop-lower.arena.rows.items (get_or c.args.list.now c.loop-lower.lower-index 0) c.part_at.result c.loop-lower.invariant.grown (under-at (length c.args.arena.now.rows.items) c.args.list.now c.loop-lower.lower-index 0 c.requires.list (omega arith)) c.part_at.ensures.value (is-above-zero true c.part_at.result c.part_at.ensures.within w.if-part_at-gt0.true))) c.loop-lower.invariant.same (rw (pairs-old c.args.var c.args.arena.now.rows.items c.loop-lower.arena.rows.items (get_or c.args.list.now c.loop-lower.lower-index 0) c.args.list.now c.loop-lower.invariant.grown (under-at (length c.args.arena.now.rows.items) c.args.list.now c.loop-lower.lower-index 0 c.requires.list (omega arith)) c.requires.list) at w.in_ok-pair_with.ensures.same);
  }
  | else-part_at-gt0 w ↦ rw (w.arena-is, w.next-is) record {
    grown = c.loop-lower.invariant.grown;
    under = c.loop-lower.invariant.under;
    same = sym (ap (λ l. sift_from (listed (tracks c.loop-lower.arena.rows.items) c.loop-lower.next.items) (pairs c.args.var l (kept_by (bounds_above c.args.var) (listed (tracks c.args.arena.now.rows.items) c.args.list.now)))) (kept-no (bounds_below c.args.var) (row_at (tracks c.args.arena.now.rows.items) (get_or c.args.list.now c.loop-lower.lower-index 0)) (listed (tracks c.args.arena.now.rows.items) (drop (c.loop-lower.lower-index + 1) c.args.list.now)) (listed (tracks c.args.arena.now.rows.items) (drop c.loop-lower.lower-index c.args.list.now)) (listed-at (tracks c.args.arena.now.rows.items) c.args.list.now c.loop-lower.lower-index 0 (omega arith)) (side-of is_up false c.args.var c.args.arena.now.rows.items c.loop-lower.arena.rows.items (get_or c.args.list.now c.loop-lower.lower-index 0) c.part_at.result c.loop-lower.invariant.grown (under-at (length c.args.arena.now.rows.items) c.args.list.now c.loop-lower.lower-index 0 c.requires.list (omega arith)) c.part_at.ensures.value (is-above-zero false c.part_at.result c.part_at.ensures.within w.if-part_at-gt0.false)))) ∙ c.loop-lower.invariant.same;
  }
]
