use Rattle.std.proofs.Common.{arith}
use Rattle.spl_typer.proofs.Lists.{pieces-step, pieces-end}
use Rattle.expression_typer.specs.Scope.{scope_view}
use Rattle.spl_typer.proofs.inner.+pieces.Goals as goal

pub pieces_along-loop-item-preserved : goal.pieces_along-loop-item-preserved
pieces_along-loop-item-preserved t c =
    rw c.in_ok-append.ensures.items
    (pieces-step (scope_view c.args.scope.now) c.args.items.now c.loop-item.out.items c.in_ok-pieces.pieces.items c.loop-item.item-index _ _ (omega arith) c.item-item.is c.in_ok-pieces.ensures c.loop-item.invariant)

pub pieces_along-returns : goal.pieces_along-returns
pieces_along-returns t c = pieces-end (scope_view c.args.scope.now) c.args.items.now _ c.loop-item.item-index _ c.loop-item-test.false c.loop-item.invariant
