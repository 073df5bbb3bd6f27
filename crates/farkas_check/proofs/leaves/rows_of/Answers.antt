use Rattle.std.proofs.Common.{arith, refl}
use Rattle.farkas_check.proofs.Loops.{rows-more}
use Rattle.farkas_check.proofs.leaves.rows_of.Goals as goal

pub loop-f-preserved : goal.loop-f-preserved
loop-f-preserved c =
    rw c.in_ok-push_rows.ensures (rows-more c.loop-f.out.items _ _ c.args.fs.now c.loop-f.f-index c.f-item.result (omega arith) c.f-item.is refl c.loop-f.invariant)
