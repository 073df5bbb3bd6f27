use Rattle.std.proofs.Common.{arith, ap, ◌∙◌}
use Rattle.st_program.specs.Plain.{plain_inner}
use Rattle.spl_typer.proofs.Pieces.{inner_if}
use Rattle.spl_typer.proofs.Products.{along-init, along-step, along-end, branches}
use Rattle.spl_typer.proofs.paths.+paths.Goals as goal

pub paths_along-loop-piece-init : goal.paths_along-loop-piece-init
paths_along-loop-piece-init t c = along-init c.in_ok-all.all.items c.new.result _ c.in_ok-all.ensures.items c.new.ensures.items

pub paths_along-loop-piece-preserved : goal.paths_along-loop-piece-preserved
paths_along-loop-piece-preserved t c =
    along-step c.args.pieces.now c.loop-piece.piece-index _ c.loop-piece.all.items c.in_ok-further.further.items _ _ _ _
    (omega arith) c.piece-item.is c.in_ok-further.ensures c.deref.ensures.value c.deref-in-loop-piece.ensures.value c.in_ok-all-2.ensures c.loop-piece.invariant

pub paths_along-returns : goal.paths_along-returns
paths_along-returns t c = along-end c.args.pieces.now c.loop-piece.piece-index c.loop-piece.all.items _ c.loop-piece-test.false c.loop-piece.invariant

pub paths_of-returns-in_ok-append-in-If : goal.paths_of-returns-in_ok-append-in-If
paths_of-returns-in_ok-append-in-If t c =
    branches (plain_inner c.args.piece.now) _ c.in-If.yes.items c.in-If.no.items _ _ c.in_ok-out-in-If.out.items c.in_ok-others-in-If.others.items _ c.in_ok-yes-in-If.yes.items c.in_ok-no-in-If.no.items _ _
    (ap plain_inner c.in-If.is ∙ inner_if c.in-If.test c.in-If.yes c.in-If.no) c.deref-in-If.ensures.value c.deref-in-If-2.ensures.value
    c.in_ok-yes-in-If.ensures c.in_ok-no-in-If.ensures c.deref-in-If-3.ensures.value c.deref-in-If-4.ensures.value c.in_ok-out-in-If.ensures c.in_ok-others-in-If.ensures c.in_ok-append-in-If.ensures.items
