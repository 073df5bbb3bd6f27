use Rattle.step_workload.specs.Parts.{filled_unless}
use Rattle.step_workload.proofs.Each.{each_more}
use Rattle.step_workload.proofs.parts.push_others.Goals as goal

pub loop-number-preserved : goal.loop-number-preserved
loop-number-preserved c = each_more (filled_unless c.args.without c.args.part.now) c.loop-number.number c.args.last _ _ _ c.loop-number-test.true c.in_ok-push_unless.ensures c.loop-number.invariant
