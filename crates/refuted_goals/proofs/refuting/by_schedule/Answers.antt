use Rattle.std.proofs.Common.{map, subst}
use Rattle.std.proofs.lemmas.Result.{IfOk-weaker}
use Rattle.st_program.specs.Plain.{plain_children}
use Rattle.st_reading.specs.Reading.{IsStop}
use Rattle.temporal_goals.specs.Plain.{plain_step}
use Rattle.schedule_reader.specs.Faults.{see}
use Rattle.schedule_reader.specs.Schedules.{plain_schedule}
use Rattle.refuted_goals.proofs.Answers.{denies}
use Rattle.refuted_goals.proofs.Schedules.{names_are, store_fits}
use Rattle.refuted_goals.proofs.Reading.{of_schedule}
use Rattle.refuted_goals.proofs.refuting.by_schedule.Goals as goal

pub read_schedule-requires-clause-names : goal.read_schedule-requires-clause-names
read_schedule-requires-clause-names c = names_are c.args.source.now c.requires.translated

pub fails_by-requires-clause-store : goal.fails_by-requires-clause-store
fails_by-requires-clause-store c =
    let x = c.args.source.now in
    let s = plain_schedule c.in-Ok.schedule in
    store_fits x c.requires.translated s.store (c.schedules_obey.ensures x.names (plain_children x.program.processes) c.args.text.now s c.in-Ok.ensures).types

pub fails_by-requires-clause-written : goal.fails_by-requires-clause-written
fails_by-requires-clause-written c =
    let x = c.args.source.now in
    (c.schedules_obey.ensures x.names (plain_children x.program.processes) c.args.text.now (plain_schedule c.in-Ok.schedule) c.in-Ok.ensures).written

pub fails_by-requires-clause-few : goal.fails_by-requires-clause-few
fails_by-requires-clause-few c =
    let x = c.args.source.now in
    (c.schedules_obey.ensures x.names (plain_children x.program.processes) c.args.text.now (plain_schedule c.in-Ok.schedule) c.in-Ok.ensures).few

pub returns-in-Ok : goal.returns-in-Ok
returns-in-Ok c =
    let steps = map plain_step c.args.steps.now in
    IfOk-weaker c.fails_by.result _ _ (λ b h. of_schedule c.args.source.now steps c.args.text.now (plain_schedule c.in-Ok.schedule) c.in-Ok.ensures b h) c.fails_by.ensures

pub returns-in-Err : goal.returns-in-Err
returns-in-Err c =
    IfOk-weaker c.no_schedule.result _ _ (λ b h. denies b h.0 (λ p. h.1 p.0 (subst (IsStop (see c.in-Err.fault)) p.1 c.in-Err.ensures))) c.no_schedule.ensures
