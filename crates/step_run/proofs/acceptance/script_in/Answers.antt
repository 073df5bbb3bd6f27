use Rattle.std.specs.Prelude.{Err}
use Rattle.transition_system.specs.Plain.{plain_system}
use Rattle.proof_script.specs.Faults.{stop_at}
use Rattle.step_run.specs.Views.{source_view}
use Rattle.step_run.proofs.Posing.{steps_read}
use Rattle.step_run.proofs.acceptance.script_in.Goals as goal

pub returns-in-Err-At : goal.returns-in-Err-At
returns-in-Err-At c =
    let stop = stop_at c.in-Err-At.field-0-0 c.in-Err-At.field-0-1 in
    let fails = rw c.in-Err-At.field-0-is at c.in-Err-At.ensures in
    (stop, steps_read (source_view c.args.subject.now.source) (plain_system c.args.subject.now.fts) c.args.text.now (Err stop) c.requires.system fails)
