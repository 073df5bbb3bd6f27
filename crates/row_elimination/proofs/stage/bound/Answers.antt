use Rattle.std.proofs.Common.{◌∙◌, sym, subst}
use Rattle.std.proofs.lemmas.Result.{err_from_is_err_and}
use Rattle.row_elimination.specs.Plain.{rows}
use Rattle.row_elimination.specs.Places.{Halts}
use Rattle.row_elimination.proofs.Sifting.{bound-err, bound-pairs, bounds-same}
use Rattle.row_elimination.proofs.stage.bound.Goals as goal

pub returns-in_err-next : goal.returns-in_err-next
returns-in_err-next c =
    let p = err_from_is_err_and c.from_residual.result c.from_residual.ensures.1 in
    rw (p.1, p.2) (bound-err c.args.var (rows c.args.lines.items) _ c.in_err-next.ensures)

pub returns-in_err-pair_all : goal.returns-in_err-pair_all
returns-in_err-pair_all c =
    let p = err_from_is_err_and c.from_residual-in_err-pair_all.result c.from_residual-in_err-pair_all.ensures.1 in
    let s = c.in_ok-next.ensures in
    rw (p.1, p.2) (subst (λ x. Halts c.in_err-pair_all.field-0.0 x) (sym (bound-pairs c.args.var (rows c.args.lines.items) _ _ _ s.free s.lower s.upper)) (rw (c.deref.ensures.value, c.deref-2.ensures.value) at c.in_err-pair_all.ensures.exact))

pub returns : goal.returns
returns c =
    let s = c.in_ok-next.ensures in
    (bound-pairs c.args.var (rows c.args.lines.items) _ _ _ s.free s.lower s.upper ∙ (rw (c.deref.ensures.value, c.deref-2.ensures.value) at c.in_ok-pair_all.ensures.exact), bounds-same _ _ _ _ s.lower s.upper)
