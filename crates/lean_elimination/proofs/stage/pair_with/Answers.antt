use Rattle.std.proofs.Common.{arith, ap, sym, ◌∙◌, ◌+◌, length, get_or, drop, map, true, false}
use Rattle.std.proofs.lemmas.Result.{err_from_is_err_and}
use Rattle.elimination_laws.specs.Mixing.{is_down}
use Rattle.elimination_laws.specs.Stages.{paired, kept_by, bounds_above}
use Rattle.row_elimination.specs.Places.{sift_from}
use Rattle.lean_elimination.specs.Arenas.{tracks, row_at, listed}
use Rattle.lean_elimination.proofs.Growing.{at-grown, under-at, under-more, grown-then}
use Rattle.lean_elimination.proofs.Solvers.{listed-at}
use Rattle.lean_elimination.proofs.Putting.{kept-yes, kept-no}
use Rattle.lean_elimination.proofs.Stepping.{turn-ok, turn-stops, paired-old, side-of, is-below-zero}
use Rattle.lean_elimination.proofs.stage.pair_with.Goals as goal
use Rattle.lean_elimination.proofs.stage.pair_with.Goals.{then-part_at-lt0+in_ok-made+in_ok-place, else-part_at-lt0}

pub part_at-requires : goal.part_at-requires
part_at-requires c = omega (arith, (under-at (length c.args.arena.now.rows.items) c.args.list.now c.loop-upper.upper-index 0 c.requires.list (omega arith)), c.loop-upper.invariant.grown.longer)

pub paired-requires-clause-lower : goal.paired-requires-clause-lower
paired-requires-clause-lower c = omega (arith, c.requires.lower, c.loop-upper.invariant.grown.longer)

pub paired-requires-clause-upper : goal.paired-requires-clause-upper
paired-requires-clause-upper c = omega (arith, (under-at (length c.args.arena.now.rows.items) c.args.list.now c.loop-upper.upper-index 0 c.requires.list (omega arith)), c.loop-upper.invariant.grown.longer)

pub paired-requires-clause-lower_has : goal.paired-requires-clause-lower_has
paired-requires-clause-lower_has c = rw (at-grown c.args.arena.now.rows.items _ c.args.lower c.loop-upper.invariant.grown c.requires.lower) c.requires.bounds

pub place-requires-clause-list : goal.place-requires-clause-list
place-requires-clause-list c = under-more (length c.loop-upper.arena.rows.items) _ c.loop-upper.next.items c.in_ok-made.ensures.grown.longer c.loop-upper.invariant.under

pub returns-in_err-place : goal.returns-in_err-place
returns-in_err-place c =
    let p = err_from_is_err_and c.from_residual-in_err-place.result c.from_residual-in_err-place.ensures.1 in
    rw (p.1, p.2) (turn-stops c.loop-upper.arena.rows.items c.paired.new.arena.rows.items c.in_ok-made.made (paired c.args.var (row_at (tracks c.args.arena.now.rows.items) c.args.lower)) (row_at (tracks c.args.arena.now.rows.items) (get_or c.args.list.now c.loop-upper.upper-index 0)) (kept_by (bounds_above c.args.var) (listed (tracks c.args.arena.now.rows.items) (drop c.loop-upper.upper-index c.args.list.now))) (kept_by (bounds_above c.args.var) (listed (tracks c.args.arena.now.rows.items) (drop (c.loop-upper.upper-index + 1) c.args.list.now))) c.loop-upper.next.items _ c.in_err-place.field-0.0 (kept-yes (bounds_above c.args.var) (row_at (tracks c.args.arena.now.rows.items) (get_or c.args.list.now c.loop-upper.upper-index 0)) (listed (tracks c.args.arena.now.rows.items) (drop (c.loop-upper.upper-index + 1) c.args.list.now)) (listed (tracks c.args.arena.now.rows.items) (drop c.loop-upper.upper-index c.args.list.now)) (listed-at (tracks c.args.arena.now.rows.items) c.args.list.now c.loop-upper.upper-index 0 (omega arith)) (side-of is_down true c.args.var c.args.arena.now.rows.items c.loop-upper.arena.rows.items (get_or c.args.list.now c.loop-upper.upper-index 0) c.part_at.result c.loop-upper.invariant.grown (under-at (length c.args.arena.now.rows.items) c.args.list.now c.loop-upper.upper-index 0 c.requires.list (omega arith)) c.part_at.ensures.value (is-below-zero true c.part_at.result c.part_at.ensures.within c.if-part_at-lt0.true))) (paired-old c.args.var c.args.arena.now.rows.items c.loop-upper.arena.rows.items c.paired.new.arena.rows.items c.in_ok-made.made c.args.lower (get_or c.args.list.now c.loop-upper.upper-index 0) c.loop-upper.invariant.grown c.requires.lower (under-at (length c.args.arena.now.rows.items) c.args.list.now c.loop-upper.upper-index 0 c.requires.list (omega arith)) c.in_ok-made.ensures) c.loop-upper.invariant.under c.loop-upper.invariant.same c.in_err-place.ensures.exact)

pub loop-upper-preserved : goal.loop-upper-preserved
loop-upper-preserved c = elim c.if-part_at-lt0.branch [
  | then-part_at-lt0+in_ok-made+in_ok-place w ↦ rw (w.arena-is, w.next-is) record {
    grown = grown-then c.args.arena.now.rows.items c.loop-upper.arena.rows.items w.paired.new.arena.rows.items c.loop-upper.invariant.grown w.in_ok-made.ensures.grown;
    under = w.in_ok-place.ensures.under;
    same = turn-ok c.loop-upper.arena.rows.items w.paired.new.arena.rows.items w.in_ok-made.made (paired c.args.var (row_at (tracks c.args.arena.now.rows.items) c.args.lower)) (row_at (tracks c.args.arena.now.rows.items) (get_or c.args.list.now c.loop-upper.upper-index 0)) (kept_by (bounds_above c.args.var) (listed (tracks c.args.arena.now.rows.items) (drop c.loop-upper.upper-index c.args.list.now))) (kept_by (bounds_above c.args.var) (listed (tracks c.args.arena.now.rows.items) (drop (c.loop-upper.upper-index + 1) c.args.list.now))) c.loop-upper.next.items w.place.new.next.items _ (kept-yes (bounds_above c.args.var) (row_at (tracks c.args.arena.now.rows.items) (get_or c.args.list.now c.loop-upper.upper-index 0)) (listed (tracks c.args.arena.now.rows.items) (drop (c.loop-upper.upper-index + 1) c.args.list.now)) (listed (tracks c.args.arena.now.rows.items) (drop c.loop-upper.upper-index c.args.list.now)) (listed-at (tracks c.args.arena.now.rows.items) c.args.list.now c.loop-upper.upper-index 0 (omega arith)) (side-of is_down true c.args.var c.args.arena.now.rows.items c.loop-upper.arena.rows.items (get_or c.args.list.now c.loop-upper.upper-index 0) c.part_at.result c.loop-upper.invariant.grown (under-at (length c.args.arena.now.rows.items) c.args.list.now c.loop-upper.upper-index 0 c.requires.list (omega arith)) c.part_at.ensures.value (is-below-zero true c.part_at.result c.part_at.ensures.within w.if-part_at-lt0.true))) (paired-old c.args.var c.args.arena.now.rows.items c.loop-upper.arena.rows.items w.paired.new.arena.rows.items w.in_ok-made.made c.args.lower (get_or c.args.list.now c.loop-upper.upper-index 0) c.loop-upper.invariant.grown c.requires.lower (under-at (length c.args.arena.now.rows.items) c.args.list.now c.loop-upper.upper-index 0 c.requires.list (omega arith)) w.in_ok-made.ensures) c.loop-upper.invariant.under c.loop-upper.invariant.same w.in_ok-place.ensures.exact;
  }
  | else-part_at-lt0 w ↦ rw (w.arena-is, w.next-is) record {
    grown = c.loop-upper.invariant.grown;
    under = c.loop-upper.invariant.under;
    same = sym (ap (λ l. sift_from (listed (tracks c.loop-upper.arena.rows.items) c.loop-upper.next.items) (map (paired c.args.var (row_at (tracks c.args.arena.now.rows.items) c.args.lower)) l)) (kept-no (bounds_above c.args.var) (row_at (tracks c.args.arena.now.rows.items) (get_or c.args.list.now c.loop-upper.upper-index 0)) (listed (tracks c.args.arena.now.rows.items) (drop (c.loop-upper.upper-index + 1) c.args.list.now)) (listed (tracks c.args.arena.now.rows.items) (drop c.loop-upper.upper-index c.args.list.now)) (listed-at (tracks c.args.arena.now.rows.items) c.args.list.now c.loop-upper.upper-index 0 (omega arith)) (side-of is_down false c.args.var c.args.arena.now.rows.items c.loop-upper.arena.rows.items (get_or c.args.list.now c.loop-upper.upper-index 0) c.part_at.result c.loop-upper.invariant.grown (under-at (length c.args.arena.now.rows.items) c.args.list.now c.loop-upper.upper-index 0 c.requires.list (omega arith)) c.part_at.ensures.value (is-below-zero false c.part_at.result c.part_at.ensures.within w.if-part_at-lt0.false)))) ∙ c.loop-upper.invariant.same;
  }
]
