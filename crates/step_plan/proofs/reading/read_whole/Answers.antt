use Rattle.std.proofs.Common.{◌∙◌, arith, rules}
use Rattle.step_plan.proofs.Parts.{front_more}
use Rattle.step_plan.proofs.reading.read_whole.Goals as goal

pub loop-buf-preserved : goal.loop-buf-preserved
loop-buf-preserved g c = record {
  same = c.in-Ok.ensures.same ∙ c.loop-buf.invariant.same;
  counts = c.in-Ok.ensures.quiet ∙ c.loop-buf.invariant.counts;
  front = front_more _ _ _ _ _ _ _ (search rules) (search rules) (omega (arith, c.in-Ok.ensures.bound)) c.loop-buf.invariant.front c.in-Ok.ensures.bytes (search rules);
}
