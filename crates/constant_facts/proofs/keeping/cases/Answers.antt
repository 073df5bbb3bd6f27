use Rattle.std.proofs.Common.{arith}
use Rattle.constant_facts.proofs.Loops.{cases-next}
use Rattle.constant_facts.proofs.keeping.cases.Goals as goal

pub loop-component-preserved : goal.loop-component-preserved
loop-component-preserved c =
    rw (c.in_ok-push.ensures.items, c.case_of.ensures)
    (cases-next c.args.owners.now c.args.places.now c.args.count c.loop-component.component c.loop-component.out.items _ (omega arith) c.loop-component.invariant)
