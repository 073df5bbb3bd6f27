use Rattle.step_workload.specs.Parts.{filled}
use Rattle.step_workload.proofs.Each.{each_more}
use Rattle.step_workload.proofs.parts.push_each.Goals as goal

pub loop-number-preserved : goal.loop-number-preserved
loop-number-preserved c = each_more (λ i. filled i c.args.part.now) c.loop-number.number c.args.last _ _ _ c.loop-number-test.true c.in_ok-push_filled.ensures c.loop-number.invariant
