use Rattle.std.proofs.Common.{arith, ap, length}
use Rattle.std.proofs.Math.ListN.{drop_of_length-le}
use Rattle.st_program.specs.Plain.{plain_stmts, plain_children}
use Rattle.st_program.specs.Spots.{bodies_in, bodies_of}
use Rattle.spl_semantics.proofs.Counting.{child-count}
use Rattle.spl_semantics.proofs.components.+count.Goals as goal

pub count_along-returns : goal.count_along-returns
count_along-returns t c =
    omega (arith, c.loop-item.invariant.0, c.loop-item.invariant.1, ap (λ l. length (bodies_in (plain_stmts l))) (drop_of_length-le c.args.items.now c.loop-item-test.false))

pub count_among-returns : goal.count_among-returns
count_among-returns t c =
    omega (arith, c.loop-child.invariant.0, c.loop-child.invariant.1, ap (λ l. length (bodies_of (plain_children l))) (drop_of_length-le c.args.children.now c.loop-child-test.false))

pub count_among-loop-child-preserved : goal.count_among-loop-child-preserved
count_among-loop-child-preserved t c =
    let n = child-count c.args.children.now c.loop-child.child-index c.child-item.result c.deref.result.now (omega arith) c.child-item.is c.deref.ensures.value in (
      omega (arith, c.saturating_add-count.ensures),
      omega (arith, c.loop-child.invariant.0, c.loop-child.invariant.1, c.saturating_add-count.ensures, c.saturating_add.ensures, c.count_along.ensures, n),
    )
