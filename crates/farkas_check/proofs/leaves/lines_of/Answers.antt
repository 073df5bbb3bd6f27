use Rattle.std.proofs.Common.{arith, refl}
use Rattle.farkas_check.proofs.Loops.{lines-more}
use Rattle.farkas_check.proofs.leaves.lines_of.Goals as goal

pub loop-f-preserved : goal.loop-f-preserved
loop-f-preserved c =
    rw c.in_ok-push_line.ensures (lines-more c.loop-f.out.items _ _ c.args.fs.now c.loop-f.f-index c.f-item.result (omega arith) c.f-item.is refl c.loop-f.invariant)
