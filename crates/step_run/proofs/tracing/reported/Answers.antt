use Rattle.std.proofs.Common.{◌∙◌}
use Rattle.spl_semantics.specs.Observed.{observed}
use Rattle.schedule_reader.specs.Schedules.{plain_schedule}
use Rattle.step_run.specs.Views.{scripted_view}
use Rattle.step_run.proofs.ReportedRuns.{AreItsCounts, AreItsJudgements, few_counts, reported_is}
use Rattle.step_run.proofs.tracing.reported.Goals as goal

pub played-requires-clause-few : goal.played-requires-clause-few
played-requires-clause-few c =
    let x = scripted_view c.args.scripted.now in
    let greatest : AreItsCounts x c.args.played.now c.in_ok-counts.counts.items = λ s later h. c.in_ok-counts.ensures (observed x.program.processes s later) (c.in_ok-watched.ensures.watched.course s later h) in
    let few = few_counts x (plain_schedule c.args.schedule.now) c.args.played.now c.requires.plays c.in_ok-counts.counts.items c.requires.few greatest in
    rw c.deref-3.ensures.value few

pub returns : goal.returns
returns c =
    let x = scripted_view c.args.scripted.now in
    let greatest : AreItsCounts x c.args.played.now c.in_ok-counts.counts.items = λ s later h. c.in_ok-counts.ensures (observed x.program.processes s later) (c.in_ok-watched.ensures.watched.course s later h) in
    let all = rw c.deref.ensures.value at c.in_ok-judged.ensures in
    let judged : AreItsJudgements x c.args.played.now c.in_ok-judged.judged.items = λ s later h. all x.program.processes s later c.in_ok-watched.ensures.watched h in
    let text = rw (c.new-text.ensures.items, c.deref-2.ensures.value, c.deref-3.ensures.value, c.deref-4.ensures.value, c.len.ensures, c.args.schedule.now.moves.ok.0) at c.in_ok-played.ensures in
    c.shown.ensures ∙ reported_is x (plain_schedule c.args.schedule.now) c.args.played.now c.requires.plays c.in_ok-counts.counts.items c.in_ok-judged.judged.items c.played.new.out.items
    greatest judged text
