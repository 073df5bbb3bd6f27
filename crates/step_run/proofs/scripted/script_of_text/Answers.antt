use Rattle.std.specs.Prelude.{Ok}
use Rattle.transition_system.specs.Plain.{plain_system}
use Rattle.proof_script.specs.Faults.{see}
use Rattle.step_run.specs.Views.{source_view}
use Rattle.step_run.proofs.Posing.{script_read, steps_read, script_over}
use Rattle.step_run.proofs.scripted.script_of_text.Goals as goal

pub returns-in-Ok-clause-settles : goal.returns-in-Ok-clause-settles
returns-in-Ok-clause-settles c =
    let p = source_view c.args.source.now in
    script_read p c.args.text.now (Ok _) (steps_read p (plain_system c.args.fts.now) c.args.text.now (Ok _) c.requires.system c.in-Ok.ensures)

pub returns-in-Ok-clause-script : goal.returns-in-Ok-clause-script
returns-in-Ok-clause-script c =
    let p = source_view c.args.source.now in
    (c.args.text.now, steps_read p (plain_system c.args.fts.now) c.args.text.now (Ok _) c.requires.system c.in-Ok.ensures)

pub returns-in_ok-proof_refused-in-Err-clause-settles : goal.returns-in_ok-proof_refused-in-Err-clause-settles
returns-in_ok-proof_refused-in-Err-clause-settles c =
    script_over (source_view c.args.source.now) (plain_system c.args.fts.now) c.args.text.now (see c.in-Err.fault) c.from.result c.in_ok-proof_refused-in-Err.field-0 c.requires.system c.in-Err.ensures
    c.from.ensures c.in_ok-proof_refused-in-Err.ensures.outcome c.in_ok-proof_refused-in-Err.ensures.decided
