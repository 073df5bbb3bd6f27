use Rattle.std.proofs.Common.{arith}
use Rattle.trace_player.proofs.Marking.{marks-next}
use Rattle.trace_player.proofs.naming.mark_all.Goals as goal

pub loop-name-preserved : goal.loop-name-preserved
loop-name-preserved c = marks-next c.args.row.now c.loop-name.name-index _ (omega (arith, c.loop-name-test.true)) c.loop-name.marks c.mark.new.marks c.mark.ensures c.loop-name.invariant
