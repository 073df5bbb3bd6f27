use Rattle.step_workload.specs.Texts.{alone_inside}
use Rattle.step_workload.proofs.Each.{each_more}
use Rattle.step_workload.proofs.texts.push_each_alone.Goals as goal

pub loop-i-preserved : goal.loop-i-preserved
loop-i-preserved c = each_more (alone_inside c.args.n) c.loop-i.i c.args.n _ _ _ c.loop-i-test.true c.in_ok-push_alone.ensures c.loop-i.invariant
