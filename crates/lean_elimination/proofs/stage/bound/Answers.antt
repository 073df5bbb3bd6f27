use Rattle.std.proofs.Common.{sym, ◌∙◌, map, [], Some}
use Rattle.std.proofs.lemmas.Result.{err_from_is_err_and}
use Rattle.elimination_laws.specs.Stages.{pairs, kept_by, bounds_above, bounds_below, is_free}
use Rattle.lean_elimination.specs.Arenas.{tracks, listed}
use Rattle.lean_elimination.proofs.Putting.{stops-same, stops-append, list-append}
use Rattle.lean_elimination.proofs.stage.bound.Goals as goal

pub returns-in_err-next : goal.returns-in_err-next
returns-in_err-next c =
    let p = err_from_is_err_and c.from_residual.result c.from_residual.ensures.1 in
    rw (p.1, p.2) (stops-append (tracks c.args.arena.now.rows.items) [] c.in_err-next.field-0.0 (map (λ x. Some x) (kept_by (is_free c.args.var) (listed (tracks c.args.arena.now.rows.items) c.args.list.now))) (pairs c.args.var (kept_by (bounds_below c.args.var) (listed (tracks c.args.arena.now.rows.items) c.args.list.now)) (kept_by (bounds_above c.args.var) (listed (tracks c.args.arena.now.rows.items) c.args.list.now))) c.in_err-next.ensures)

pub returns-in_err-pair_all : goal.returns-in_err-pair_all
returns-in_err-pair_all c =
    let p = err_from_is_err_and c.from_residual-in_err-pair_all.result c.from_residual-in_err-pair_all.ensures.1 in
    rw (p.1, p.2) (stops-same _ c.in_err-pair_all.field-0.0 _ _ (sym (list-append [] _ (map (λ x. Some x) (kept_by (is_free c.args.var) (listed (tracks c.args.arena.now.rows.items) c.args.list.now))) (pairs c.args.var (kept_by (bounds_below c.args.var) (listed (tracks c.args.arena.now.rows.items) c.args.list.now)) (kept_by (bounds_above c.args.var) (listed (tracks c.args.arena.now.rows.items) c.args.list.now))) c.in_ok-next.ensures.0)) c.in_err-pair_all.ensures)

pub returns : goal.returns
returns c = record {
  grown = c.in_ok-pair_all.ensures.grown;
  under = c.in_ok-pair_all.ensures.under;
  same = list-append [] _ (map (λ x. Some x) (kept_by (is_free c.args.var) (listed (tracks c.args.arena.now.rows.items) c.args.list.now))) (pairs c.args.var (kept_by (bounds_below c.args.var) (listed (tracks c.args.arena.now.rows.items) c.args.list.now)) (kept_by (bounds_above c.args.var) (listed (tracks c.args.arena.now.rows.items) c.args.list.now))) c.in_ok-next.ensures.0 ∙ c.in_ok-pair_all.ensures.same;
}
