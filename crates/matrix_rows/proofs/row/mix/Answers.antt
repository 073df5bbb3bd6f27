use Rattle.std.proofs.Common.{rules}
use mir.Syntax.{w128}
use mir.Val.{SFits}
use Rattle.std.proofs.lemmas.Int.{to_z-of_z}
use Rattle.std.proofs.lemmas.Result.{err_from_is_err_and}
use Rattle.st_linear.proofs.Answering.{Fails-whole}
use Rattle.matrix_rows.proofs.Mixed.{no_first, no_second, gives-sum, sum-without}
use Rattle.matrix_rows.proofs.row.mix.Goals as goal

pub returns-in_err-first-clause-value : goal.returns-in_err-first-clause-value
returns-in_err-first-clause-value c =
    let f : SFits w128 c.args.x.now = search rules in
    let a = rw (to_z-of_z w128 c.args.x.now f) at c.in_err-first.ensures.exact in
    let p = err_from_is_err_and c.from_residual.result c.from_residual.ensures.1 in
    rw (p.1, p.2) (Fails-whole c.in_err-first.field-0.0 _ _ (λ e. no_first c.args.x.now c.args.form.now c.args.y.now c.args.other.now c.requires.form e) a)

pub returns-in_err-second-clause-value : goal.returns-in_err-second-clause-value
returns-in_err-second-clause-value c =
    let f : SFits w128 c.args.x.now = search rules in
    let a = rw (to_z-of_z w128 c.args.x.now f) at c.in_ok-first.ensures.exact in
    let g : SFits w128 c.args.y.now = search rules in
    let b = rw (to_z-of_z w128 c.args.y.now g) at c.in_err-second.ensures.exact in
    let p = err_from_is_err_and c.from_residual-in_err-second.result c.from_residual-in_err-second.ensures.1 in
    rw (p.1, p.2) (Fails-whole c.in_err-second.field-0.0 _ _ (λ e. no_second c.args.x.now c.args.form.now c.args.y.now c.args.other.now c.in_ok-first.first c.requires.form c.requires.other a e) b)

pub returns-clause-value : goal.returns-clause-value
returns-clause-value c =
    let f : SFits w128 c.args.x.now = search rules in
    let a = rw (to_z-of_z w128 c.args.x.now f) at c.in_ok-first.ensures.exact in
    let g : SFits w128 c.args.y.now = search rules in
    let b = rw (to_z-of_z w128 c.args.y.now g) at c.in_ok-second.ensures.exact in
    gives-sum c.args.x.now c.args.form.now c.args.y.now c.args.other.now c.in_ok-first.first c.in_ok-second.second c.add.result c.requires.form c.requires.other a b c.add.ensures.exact

pub returns-clause-constant : goal.returns-clause-constant
returns-clause-constant c =
    let f : SFits w128 c.args.x.now = search rules in
    let a = rw (to_z-of_z w128 c.args.x.now f) at c.in_ok-first.ensures.exact in
    let g : SFits w128 c.args.y.now = search rules in
    let b = rw (to_z-of_z w128 c.args.y.now g) at c.in_ok-second.ensures.exact in
    sum-without c.args.x.now c.args.form.now c.args.y.now c.args.other.now c.in_ok-first.first c.in_ok-second.second c.add.result c.requires.form c.requires.other a b c.add.ensures.exact
