use Rattle.trace_player.proofs.Marking.{MarksTo}
use Rattle.trace_player.proofs.naming.mark_all.Given as goal

abbrev pub invariant-loop-name : goal.invariant-loop-name
invariant-loop-name l = MarksTo l.row l.name-index l.marks
