use Rattle.std.proofs.Common.{subst}
use Rattle.trace_player.specs.Judgements.{JudgedOn}
use Rattle.refuted_goals.proofs.Answers.{is_yes, is_no}
use Rattle.refuted_goals.proofs.Judging.{holds_not, unclear_not}
use Rattle.refuted_goals.proofs.playing.is_failure.Goals as goal

pub returns-in-Holds : goal.returns-in-Holds
returns-in-Holds c = λ aim o h. is_no (holds_not aim o (subst (JudgedOn aim o) c.in-Holds.is h))

pub returns-in-Fails : goal.returns-in-Fails
returns-in-Fails c = λ aim o h. is_yes (_, subst (JudgedOn aim o) c.in-Fails.is h)

pub returns-in-Unclear : goal.returns-in-Unclear
returns-in-Unclear c = λ aim o h. is_no (unclear_not aim o _ (subst (JudgedOn aim o) c.in-Unclear.is h))
