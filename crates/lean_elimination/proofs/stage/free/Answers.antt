use Rattle.std.proofs.Common.{arith, ap, sym, ◌∙◌, ◌^◌, ◌+◌, length, get_or, drop, map, Some}
use mir.Syntax.{w64}
use mir.Val.{of_z}
use Rattle.std.proofs.lemmas.Result.{err_from_is_err_and}
use Rattle.st_linear.specs.Linear.{is_zero}
use Rattle.elimination_laws.specs.Stages.{kept_by, is_free}
use Rattle.row_elimination.specs.Places.{sift_from}
use Rattle.row_elimination.proofs.Factors.{not-zero}
use Rattle.lean_elimination.specs.Arenas.{tracks, row_at, listed}
use Rattle.lean_elimination.proofs.Growing.{under-at}
use Rattle.lean_elimination.proofs.Narrowing.{narrow-zero}
use Rattle.lean_elimination.proofs.Solvers.{listed-at}
use Rattle.lean_elimination.proofs.Putting.{kept-yes, kept-no}
use Rattle.lean_elimination.proofs.Stepping.{turn-ok, turn-stops, made-self}
use Rattle.lean_elimination.proofs.stage.free.Goals as goal
use Rattle.lean_elimination.proofs.stage.free.Goals.{then-part_at-eq0+in_ok-place, else-part_at-eq0}

pub part_at-requires : goal.part_at-requires
part_at-requires c = (under-at (length c.args.arena.now.rows.items) c.args.list.now c.loop-k.k-index 0 c.requires (omega arith))

pub place-requires-clause-row : goal.place-requires-clause-row
place-requires-clause-row c = (under-at (length c.args.arena.now.rows.items) c.args.list.now c.loop-k.k-index 0 c.requires (omega arith))

pub returns-in_err-place : goal.returns-in_err-place
returns-in_err-place c =
    let p = err_from_is_err_and c.from_residual-in_err-place.result c.from_residual-in_err-place.ensures.1 in
    rw (p.1, p.2) (turn-stops c.args.arena.now.rows.items c.args.arena.now.rows.items (get_or c.args.list.now c.loop-k.k-index 0) (λ x. Some x) (row_at (tracks c.args.arena.now.rows.items) (get_or c.args.list.now c.loop-k.k-index 0)) (kept_by (is_free c.args.var) (listed (tracks c.args.arena.now.rows.items) (drop c.loop-k.k-index c.args.list.now))) (kept_by (is_free c.args.var) (listed (tracks c.args.arena.now.rows.items) (drop (c.loop-k.k-index + 1) c.args.list.now))) c.loop-k.next.items _ c.in_err-place.field-0.0 (kept-yes (is_free c.args.var) (row_at (tracks c.args.arena.now.rows.items) (get_or c.args.list.now c.loop-k.k-index 0)) (listed (tracks c.args.arena.now.rows.items) (drop (c.loop-k.k-index + 1) c.args.list.now)) (listed (tracks c.args.arena.now.rows.items) (drop c.loop-k.k-index c.args.list.now)) (listed-at (tracks c.args.arena.now.rows.items) c.args.list.now c.loop-k.k-index 0 (omega arith)) (ap is_zero (sym c.part_at.ensures.value ∙ narrow-zero (2 ^ 62) c.part_at.result (omega arith) c.part_at.ensures.within c.if-part_at-eq0.true))) (made-self c.args.arena.now.rows.items (get_or c.args.list.now c.loop-k.k-index 0) (under-at (length c.args.arena.now.rows.items) c.args.list.now c.loop-k.k-index 0 c.requires (omega arith))) c.loop-k.invariant.under c.loop-k.invariant.same c.in_err-place.ensures.exact)

pub loop-k-preserved : goal.loop-k-preserved
loop-k-preserved c = elim c.if-part_at-eq0.branch [
  | then-part_at-eq0+in_ok-place w ↦ rw w.next-is record {
    under = w.in_ok-place.ensures.under;
    same = turn-ok c.args.arena.now.rows.items c.args.arena.now.rows.items (get_or c.args.list.now c.loop-k.k-index 0) (λ x. Some x) (row_at (tracks c.args.arena.now.rows.items) (get_or c.args.list.now c.loop-k.k-index 0)) (kept_by (is_free c.args.var) (listed (tracks c.args.arena.now.rows.items) (drop c.loop-k.k-index c.args.list.now))) (kept_by (is_free c.args.var) (listed (tracks c.args.arena.now.rows.items) (drop (c.loop-k.k-index + 1) c.args.list.now))) c.loop-k.next.items w.place.new.next.items _ (kept-yes (is_free c.args.var) (row_at (tracks c.args.arena.now.rows.items) (get_or c.args.list.now c.loop-k.k-index 0)) (listed (tracks c.args.arena.now.rows.items) (drop (c.loop-k.k-index + 1) c.args.list.now)) (listed (tracks c.args.arena.now.rows.items) (drop c.loop-k.k-index c.args.list.now)) (listed-at (tracks c.args.arena.now.rows.items) c.args.list.now c.loop-k.k-index 0 (omega arith)) (ap is_zero (sym c.part_at.ensures.value ∙ narrow-zero (2 ^ 62) c.part_at.result (omega arith) c.part_at.ensures.within w.if-part_at-eq0.true))) (made-self c.args.arena.now.rows.items (get_or c.args.list.now c.loop-k.k-index 0) (under-at (length c.args.arena.now.rows.items) c.args.list.now c.loop-k.k-index 0 c.requires (omega arith))) c.loop-k.invariant.under c.loop-k.invariant.same w.in_ok-place.ensures.exact;
  }
  | else-part_at-eq0 w ↦ rw w.next-is record {
    under = c.loop-k.invariant.under;
    same = sym (ap (λ l. sift_from (listed (tracks c.args.arena.now.rows.items) c.loop-k.next.items) (map (λ x. Some x) l)) (kept-no (is_free c.args.var) (row_at (tracks c.args.arena.now.rows.items) (get_or c.args.list.now c.loop-k.k-index 0)) (listed (tracks c.args.arena.now.rows.items) (drop (c.loop-k.k-index + 1) c.args.list.now)) (listed (tracks c.args.arena.now.rows.items) (drop c.loop-k.k-index c.args.list.now)) (listed-at (tracks c.args.arena.now.rows.items) c.args.list.now c.loop-k.k-index 0 (omega arith)) (ap is_zero (sym c.part_at.ensures.value) ∙ not-zero c.part_at.result (λ e. w.if-part_at-eq0.false (ap (of_z w64) e))))) ∙ c.loop-k.invariant.same;
  }
]
