use Rattle.std.proofs.Common.{arith, ◌+◌, length, get_or, drop}
use Rattle.std.proofs.lemmas.Result.{err_from_is_err_and}
use Rattle.elimination_laws.specs.Stages.{freed}
use Rattle.lean_elimination.specs.Arenas.{tracks, row_at, listed}
use Rattle.lean_elimination.proofs.Growing.{at-grown, under-at, under-more, grown-then}
use Rattle.lean_elimination.proofs.Solvers.{listed-at}
use Rattle.lean_elimination.proofs.Stepping.{turn-ok, turn-stops, freed-old}
use Rattle.lean_elimination.proofs.stage.solve.Goals as goal

pub freed-requires-clause-equation : goal.freed-requires-clause-equation
freed-requires-clause-equation c = omega (arith, c.requires.equation, c.loop-k.invariant.grown.longer)

pub freed-requires-clause-line : goal.freed-requires-clause-line
freed-requires-clause-line c = omega (arith, under-at (length c.args.arena.now.rows.items) c.args.list.now c.loop-k.k-index 0 c.requires.list (omega arith), c.loop-k.invariant.grown.longer)

pub freed-requires-clause-solves : goal.freed-requires-clause-solves
freed-requires-clause-solves c = rw (at-grown c.args.arena.now.rows.items _ c.args.equation c.loop-k.invariant.grown c.requires.equation) c.requires.solves

pub place-requires-clause-list : goal.place-requires-clause-list
place-requires-clause-list c = under-more (length c.loop-k.arena.rows.items) _ c.loop-k.next.items c.in_ok-made.ensures.grown.longer c.loop-k.invariant.under

pub returns-in_err-place : goal.returns-in_err-place
returns-in_err-place c =
    let p = err_from_is_err_and c.from_residual-in_err-place.result c.from_residual-in_err-place.ensures.1 in
    rw (p.1, p.2) (turn-stops c.loop-k.arena.rows.items c.freed.new.arena.rows.items c.in_ok-made.made (freed c.args.var (row_at (tracks c.args.arena.now.rows.items) c.args.equation)) (row_at (tracks c.args.arena.now.rows.items) (get_or c.args.list.now c.loop-k.k-index 0)) (listed (tracks c.args.arena.now.rows.items) (drop c.loop-k.k-index c.args.list.now)) (listed (tracks c.args.arena.now.rows.items) (drop (c.loop-k.k-index + 1) c.args.list.now)) c.loop-k.next.items _ c.in_err-place.field-0.0 (listed-at (tracks c.args.arena.now.rows.items) c.args.list.now c.loop-k.k-index 0 (omega arith)) (freed-old c.args.var c.args.arena.now.rows.items c.loop-k.arena.rows.items c.freed.new.arena.rows.items c.in_ok-made.made c.args.equation (get_or c.args.list.now c.loop-k.k-index 0) c.loop-k.invariant.grown c.requires.equation (under-at (length c.args.arena.now.rows.items) c.args.list.now c.loop-k.k-index 0 c.requires.list (omega arith)) c.in_ok-made.ensures) c.loop-k.invariant.under c.loop-k.invariant.same c.in_err-place.ensures.exact)

pub loop-k-preserved : goal.loop-k-preserved
loop-k-preserved c = record {
  grown = grown-then c.args.arena.now.rows.items c.loop-k.arena.rows.items c.freed.new.arena.rows.items c.loop-k.invariant.grown c.in_ok-made.ensures.grown;
  under = c.in_ok-place.ensures.under;
  same = turn-ok c.loop-k.arena.rows.items c.freed.new.arena.rows.items c.in_ok-made.made (freed c.args.var (row_at (tracks c.args.arena.now.rows.items) c.args.equation)) (row_at (tracks c.args.arena.now.rows.items) (get_or c.args.list.now c.loop-k.k-index 0)) (listed (tracks c.args.arena.now.rows.items) (drop c.loop-k.k-index c.args.list.now)) (listed (tracks c.args.arena.now.rows.items) (drop (c.loop-k.k-index + 1) c.args.list.now)) c.loop-k.next.items c.place.new.next.items _ (listed-at (tracks c.args.arena.now.rows.items) c.args.list.now c.loop-k.k-index 0 (omega arith)) (freed-old c.args.var c.args.arena.now.rows.items c.loop-k.arena.rows.items c.freed.new.arena.rows.items c.in_ok-made.made c.args.equation (get_or c.args.list.now c.loop-k.k-index 0) c.loop-k.invariant.grown c.requires.equation (under-at (length c.args.arena.now.rows.items) c.args.list.now c.loop-k.k-index 0 c.requires.list (omega arith)) c.in_ok-made.ensures) c.loop-k.invariant.under c.loop-k.invariant.same c.in_ok-place.ensures.exact;
}
