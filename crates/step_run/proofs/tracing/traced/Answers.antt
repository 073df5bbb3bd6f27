use Rattle.std.proofs.Common.{◌∙◌, sym}
use Rattle.std.proofs.lemmas.Result.{IfOk-weaker}
use Rattle.schedule_reader.specs.Faults.{see}
use Rattle.schedule_reader.specs.Schedules.{plain_schedule}
use Rattle.step_plan.specs.Outcome.{ended_view}
use Rattle.step_run.specs.Views.{source_view, scripted_view}
use Rattle.step_run.proofs.Scripts.{names_are, store_fits, read_so, refused_so}
use Rattle.step_run.proofs.tracing.traced.Goals as goal

pub read_schedule-requires-clause-names : goal.read_schedule-requires-clause-names
read_schedule-requires-clause-names c = names_are (source_view c.args.scripted.now.source) c.requires.spelled

pub played-requires-clause-store : goal.played-requires-clause-store
played-requires-clause-store c =
    let p = source_view c.args.scripted.now.source in
    let s = plain_schedule c.in-Ok.schedule in
    let obeys = c.schedules_obey.ensures p.names p.processes c.args.text.now s c.in-Ok.ensures in
    store_fits p s.store c.requires.spelled obeys.types

pub played-requires-clause-written : goal.played-requires-clause-written
played-requires-clause-written c =
    let p = source_view c.args.scripted.now.source in
    (c.schedules_obey.ensures p.names p.processes c.args.text.now (plain_schedule c.in-Ok.schedule) c.in-Ok.ensures).written

pub played-requires-clause-few : goal.played-requires-clause-few
played-requires-clause-few c =
    let p = source_view c.args.scripted.now.source in
    (c.schedules_obey.ensures p.names p.processes c.args.text.now (plain_schedule c.in-Ok.schedule) c.in-Ok.ensures).few

pub returns-in-Ok : goal.returns-in-Ok
returns-in-Ok c =
    let x = scripted_view c.args.scripted.now in
    IfOk-weaker c.played.result _ _ (λ e h. h ∙ sym (read_so x c.args.text.now (plain_schedule c.in-Ok.schedule) c.in-Ok.ensures)) c.played.ensures

pub returns-in-Err : goal.returns-in-Err
returns-in-Err c =
    let x = scripted_view c.args.scripted.now in
    IfOk-weaker c.schedule_refused.result _ _ (λ e end. refused_so x c.args.text.now (see c.in-Err.fault) (ended_view e) end c.in-Err.ensures) c.schedule_refused.ensures
