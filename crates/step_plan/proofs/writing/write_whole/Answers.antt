use Rattle.std.proofs.Common.{◌∙◌, arith}
use Rattle.step_plan.proofs.Parts.{behind_more}
use Rattle.step_plan.proofs.writing.write_whole.Goals as goal

pub loop-done-preserved : goal.loop-done-preserved
loop-done-preserved g c = record {
  within = omega (arith, c.in-Ok.ensures.share.most);
  taken = behind_more _ _ _ _ _ _ c.loop-done.invariant.taken c.in-Ok.ensures.bytes;
  count = c.in-Ok.ensures.quiet ∙ c.loop-done.invariant.count;
}
