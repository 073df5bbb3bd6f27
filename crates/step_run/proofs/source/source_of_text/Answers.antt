use Rattle.std.specs.Prelude.{Ok}
use Rattle.step_run.proofs.Sources.{source_read, source_over}
use Rattle.step_run.proofs.source.source_of_text.Goals as goal

pub returns-in-Ok-clause-settles : goal.returns-in-Ok-clause-settles
returns-in-Ok-clause-settles c = source_read _ (Ok _) c.in-Ok.ensures

pub returns-in_ok-program_refused-in-Err-clause-settles : goal.returns-in_ok-program_refused-in-Err-clause-settles
returns-in_ok-program_refused-in-Err-clause-settles c =
    source_over c.args.text.now c.in-Err.refusal c.in_ok-program_refused-in-Err.field-0 c.in-Err.ensures c.in_ok-program_refused-in-Err.ensures.outcome c.in_ok-program_refused-in-Err.ensures.decided
