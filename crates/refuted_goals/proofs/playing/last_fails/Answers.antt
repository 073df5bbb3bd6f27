use Rattle.std.proofs.Common.{sym}
use Rattle.st_program.specs.Plain.{plain_children}
use Rattle.spl_semantics.specs.Observed.{observed}
use Rattle.temporal_goals.specs.Plain.{plain_goal}
use Rattle.refuted_goals.proofs.Answers.{is_no}
use Rattle.refuted_goals.proofs.Judging.{where_last, where_none}
use Rattle.refuted_goals.proofs.playing.last_fails.Goals as goal

pub returns-in_ok-judged-in-Some : goal.returns-in_ok-judged-in-Some
returns-in_ok-judged-in-Some c = λ s later played.
    (let o = observed (plain_children c.args.program.now.processes) s later in
    where_last c.args.steps.now o c.in-Some.step.now (sym c.in-Some.ensures.value) c.is_failure.result
    (c.is_failure.ensures (plain_goal c.in-Some.step.now.goal) o (c.in_ok-judged-in-Some.ensures s later played)))

pub returns-in-None : goal.returns-in-None
returns-in-None c = λ s later played.
    is_no (where_none c.args.steps.now (observed (plain_children c.args.program.now.processes) s later) (sym c.in-None.ensures.value))
