use Rattle.std.proofs.Common.{arith}
use Rattle.spl_typer.proofs.Lists.{statements-step, statements-end, children-step, children-end}
use Rattle.expression_typer.specs.Scope.{scope_view}
use Rattle.spl_typer.proofs.statement.+walked.Goals as goal

pub along-loop-item-preserved : goal.along-loop-item-preserved
along-loop-item-preserved t c =
    rw c.in_ok-push.ensures.items
    (statements-step (scope_view c.args.scope.now) _ c.args.there c.args.items.now c.loop-item.out.items c.loop-item.item-index _ c.in_ok-stmt.stmt _ _ _ (omega arith) c.item-item.is c.in_ok-stmt.ensures c.loop-item.invariant)

pub along-returns : goal.along-returns
along-returns t c = statements-end (scope_view c.args.scope.now) _ c.args.there c.args.items.now _ c.loop-item.item-index _ _ c.loop-item-test.false c.loop-item.invariant

pub inside-loop-raw-preserved : goal.inside-loop-raw-preserved
inside-loop-raw-preserved t c =
    rw c.in_ok-push.ensures.items
    (children-step (scope_view c.args.scope.now) c.args.raws.now c.loop-raw.out.items c.loop-raw.raw-index _ c.in_ok-child.child _ _ _ (omega arith) c.raw-item.is c.in_ok-child.ensures c.loop-raw.invariant)

pub inside-returns : goal.inside-returns
inside-returns t c = children-end (scope_view c.args.scope.now) c.args.raws.now _ c.loop-raw.raw-index _ _ c.loop-raw-test.false c.loop-raw.invariant
