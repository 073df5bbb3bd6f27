use Rattle.std.proofs.Common.{arith, ap, sym, subst, ◌∙◌, ◌+◌, length, map, drop, ◌∷◌, Some}
use Rattle.std.proofs.lemmas.Result.{err_from_is_err_and}
use Rattle.farkas_leaf.specs.Lent.{lent_line}
use Rattle.elimination_laws.specs.Stages.{tracked}
use Rattle.row_elimination.specs.Runs.{first_row}
use Rattle.lean_elimination.specs.Arenas.{IsMade, tracks}
use Rattle.lean_elimination.proofs.Growing.{under-more, grown-then}
use Rattle.lean_elimination.proofs.Stepping.{turn-ok, turn-stops}
use Rattle.lean_elimination.proofs.Answering.{tracked-more}
use Rattle.lean_elimination.proofs.top.first_rows.Goals as goal

pub place-requires-clause-list : goal.place-requires-clause-list
place-requires-clause-list c = under-more (length c.loop-i.arena.rows.items) _ c.loop-i.next.items c.in_ok-made.ensures.grown.longer c.loop-i.invariant.under

pub returns-in_err-place : goal.returns-in_err-place
returns-in_err-place c =
    let p = err_from_is_err_and c.from_residual-in_err-place.result c.from_residual-in_err-place.ensures.1 in
    rw (p.1, p.2) (turn-stops c.loop-i.arena.rows.items c.add.new.arena.rows.items c.in_ok-made.made (λ x. Some x) (first_row c.loop-i.i (lent_line c.index-lines-i.result)) (tracked c.loop-i.i (map lent_line (drop c.loop-i.i c.args.lines.now))) (tracked (c.loop-i.i + 1) (map lent_line (drop (c.loop-i.i + 1) c.args.lines.now))) c.loop-i.next.items _ c.in_err-place.field-0.0 (tracked-more c.args.lines.now c.loop-i.i c.index-lines-i.result (omega arith) ∙ ap (λ l. first_row c.loop-i.i (lent_line l) ∷ tracked (c.loop-i.i + 1) (map lent_line (drop (c.loop-i.i + 1) c.args.lines.now))) (sym c.index-lines-i.is)) (subst (λ t. IsMade c.loop-i.arena.rows.items c.add.new.arena.rows.items c.in_ok-made.made (Some t)) (c.in_ok-row.ensures.value (tracks c.loop-i.arena.rows.items)) c.in_ok-made.ensures) c.loop-i.invariant.under c.loop-i.invariant.same c.in_err-place.ensures.exact)

pub loop-i-preserved : goal.loop-i-preserved
loop-i-preserved c = record {
  grown = grown-then c.args.arena.now.rows.items c.loop-i.arena.rows.items c.add.new.arena.rows.items c.loop-i.invariant.grown c.in_ok-made.ensures.grown;
  under = c.in_ok-place.ensures.under;
  same = turn-ok c.loop-i.arena.rows.items c.add.new.arena.rows.items c.in_ok-made.made (λ x. Some x) (first_row c.loop-i.i (lent_line c.index-lines-i.result)) (tracked c.loop-i.i (map lent_line (drop c.loop-i.i c.args.lines.now))) (tracked (c.loop-i.i + 1) (map lent_line (drop (c.loop-i.i + 1) c.args.lines.now))) c.loop-i.next.items c.place.new.next.items _ (tracked-more c.args.lines.now c.loop-i.i c.index-lines-i.result (omega arith) ∙ ap (λ l. first_row c.loop-i.i (lent_line l) ∷ tracked (c.loop-i.i + 1) (map lent_line (drop (c.loop-i.i + 1) c.args.lines.now))) (sym c.index-lines-i.is)) (subst (λ t. IsMade c.loop-i.arena.rows.items c.add.new.arena.rows.items c.in_ok-made.made (Some t)) (c.in_ok-row.ensures.value (tracks c.loop-i.arena.rows.items)) c.in_ok-made.ensures) c.loop-i.invariant.under c.loop-i.invariant.same c.in_ok-place.ensures.exact;
}
