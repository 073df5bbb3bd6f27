use Rattle.st_program.specs.Plain.{plain_children}
use Rattle.schedule_reader.specs.Schedules.{plain_schedule}
use Rattle.run_reports.proofs.Fitting.{names_are, store_fits}
use Rattle.run_reports.proofs.reading.playable_schedule.Goals as goal

pub read_schedule-requires-clause-names : goal.read_schedule-requires-clause-names
read_schedule-requires-clause-names c = names_are c.args.source.now c.requires.translated

pub returns-in-Ok-clause-playable : goal.returns-in-Ok-clause-playable
returns-in-Ok-clause-playable c =
    let x = c.args.source.now in
    let s = plain_schedule c.in-Ok.schedule in
    let obeys = c.schedules_obey.ensures x.names (plain_children x.program.processes) c.args.text.now s c.in-Ok.ensures in
    record { store = store_fits x s.store c.requires.translated obeys.types; written = obeys.written; few = obeys.few }
