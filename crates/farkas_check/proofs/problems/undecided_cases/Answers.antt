use Rattle.std.proofs.Common.{arith, None}
use Rattle.farkas_check.proofs.Loops.{one-less, none-left}
use Rattle.farkas_check.proofs.problems.undecided_cases.Goals as goal

pub loop-i-preserved : goal.loop-i-preserved
loop-i-preserved c = rw c.in_ok-push.ensures.items (one-less _ c.args.count c.loop-i.i None _ (omega arith) c.loop-i.invariant)

pub returns : goal.returns
returns c = none-left _ c.args.count c.loop-i.i None _ (omega arith) c.loop-i.invariant
