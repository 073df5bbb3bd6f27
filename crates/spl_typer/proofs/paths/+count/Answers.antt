use Rattle.std.proofs.Common.{arith, ap, ◌∙◌}
use Rattle.st_program.specs.Plain.{plain_inner}
use Rattle.spl_typer.proofs.Pieces.{inner_if}
use Rattle.spl_typer.proofs.Counting.{count-step, count-if}
use Rattle.spl_typer.proofs.paths.+count.Goals as goal

pub count_along-loop-piece-preserved : goal.count_along-loop-piece-preserved
count_along-loop-piece-preserved t c =
    count-step c.args.pieces.now c.loop-piece.piece-index _ c.loop-piece.product c.count_of.result c.min-product.result _ (omega arith) c.piece-item.is c.count_of.ensures c.min-product.ensures c.loop-piece.invariant.1

pub count_of-returns-in-If : goal.count_of-returns-in-If
count_of-returns-in-If t c =
    c.min.ensures
    ∙ count-if (plain_inner c.args.piece.now) _ c.in-If.yes.items c.in-If.no.items _ _ _ _
    (ap plain_inner c.in-If.is ∙ inner_if c.in-If.test c.in-If.yes c.in-If.no) c.deref.ensures.value c.deref-in-If.ensures.value c.count_along.ensures c.count_along-in-If.ensures
