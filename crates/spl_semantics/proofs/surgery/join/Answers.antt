use Rattle.std.proofs.Common.{◌≡◌, ◌+◌, ap, sym, ◌∙◌, arith, true}
use Rattle.st_program.specs.Tree.{nth}
use Rattle.st_program.specs.Plain.{plain_stmts}
use Rattle.st_program.specs.Residuals.{Run, plain_residual}
use Rattle.spl_semantics.specs.Data.{is_done}
use Rattle.spl_semantics.specs.Going as going
use Rattle.spl_semantics.proofs.Joining.{join_past, join_in, if_ok_more}
use Rattle.spl_semantics.proofs.surgery.join.Goals as goal

pub returns-then-from-items : goal.returns-then-from-items
returns-then-from-items c =
    let xs = c.args.items.now in
    let k = c.args.from in
    let done : is_done (plain_residual c.args.first) ≡ true = sym c.is_done.ensures ∙ c.if-not-is_done.false in
    if_ok_more c.behind-then-from-items.result plain_residual _ _ (ap (λ z. going.behind (nth (plain_stmts xs) (k + 1)) (Run z.occ) c.args.block (k + 1)) (sym c.index-items-from.is) ∙ join_in xs (plain_residual c.args.first) c.args.block k c.index-items-from.result (omega arith) c.index-items-from.is done) c.behind-then-from-items.ensures

pub returns : goal.returns
returns c =
    let done : is_done (plain_residual c.args.first) ≡ true = sym c.is_done.ensures ∙ c.if-not-is_done.false in
    join_past c.args.items.now (plain_residual c.args.first) c.args.block c.args.from (omega arith) done
