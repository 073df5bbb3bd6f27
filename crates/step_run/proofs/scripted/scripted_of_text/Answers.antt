use Rattle.std.proofs.Common.{refl, arith}
use Rattle.transition_system.specs.Plain.{plain_system}
use Rattle.temporal_goals.specs.Plain.{plain_script}
use Rattle.step_plan.specs.Outcome.{ended_view}
use Rattle.step_run.specs.Plans.{script_of_text}
use Rattle.step_run.specs.Views.{source_view}
use Rattle.step_run.proofs.Posing.{system_is}
use Rattle.step_run.proofs.Scripts.{next_of}
use Rattle.step_run.proofs.Stages.{goes_then, ends_then}
use Rattle.step_run.proofs.scripted.scripted_of_text.Goals as goal

pub script_of_text-requires-clause-short : goal.script_of_text-requires-clause-short
script_of_text-requires-clause-short c = omega (arith, c.requires.short)

pub script_of_text-requires-clause-system : goal.script_of_text-requires-clause-system
script_of_text-requires-clause-system c = system_is (source_view c.args.source) (plain_system c.in_ok-fts.fts) c.in_ok-fts.ensures.exact

pub returns-in-On-clause-settles : goal.returns-in-On-clause-settles
returns-in-On-clause-settles c =
    let p = source_view c.args.source in
    let read = rw c.in-On.is at c.in_ok-script.ensures.settles in
    goes_then (next_of p) (script_of_text p c.args.text.now) (plain_script c.in-On.script) (next_of p (plain_script c.in-On.script)) read refl

pub returns-in-Over-clause-settles : goal.returns-in-Over-clause-settles
returns-in-Over-clause-settles c =
    let p = source_view c.args.source in
    let over = rw c.in-Over.is at c.in_ok-script.ensures.settles in
    (ends_then (next_of p) (script_of_text p c.args.text.now) (ended_view c.in-Over.ended) over.0, over.1)

pub returns-in-On-clause-known : goal.returns-in-On-clause-known
returns-in-On-clause-known c = record {
  spelled = c.requires.spelled;
  system = system_is (source_view c.args.source) (plain_system c.in_ok-fts.fts) c.in_ok-fts.ensures.exact;
  script = rw c.in-On.is at c.in_ok-script.ensures.script;
}
