use Rattle.std.proofs.Common.{arith}
use Rattle.certificate_sharing.proofs.Growing.{below-all, below-more}
use Rattle.certificate_sharing.proofs.sameness.are_below.Goals as goal

pub loop-part-preserved : goal.loop-part-preserved
loop-part-preserved c = below-more c.args.count c.args.parts.now c.loop-part.part-index 0 (omega arith) c.loop-part.invariant (omega (arith, c.if-part-count.false))

pub returns : goal.returns
returns c = λ h. below-all c.args.count c.args.parts.now c.loop-part.part-index (omega arith) c.loop-part.invariant
