use Rattle.std.proofs.Common.{take}
use Rattle.vc_generator.specs.declared.faults.VcFault.TheVariants as limits
use Rattle.vc_generator.specs.Plain.{plain_list}
use Rattle.transition_system.specs.Plain.{plain_system}
use Rattle.temporal_goals.specs.Plain.{plain_script}
use Rattle.step_run.specs.Views.{source_view}
use Rattle.step_run.proofs.Posing.{translation_is, is_proof, is_written}
use Rattle.step_run.proofs.Accepting.{known-are, conditions-are, conditions-not}
use Rattle.step_run.proofs.acceptance.append_new.Goals as goal

pub append_conditions-requires-clause-system : goal.append_conditions-requires-clause-system
append_conditions-requires-clause-system c = translation_is (source_view c.args.subject.now.source) (plain_system c.args.subject.now.fts) c.requires.subject.system

pub append_conditions-requires-clause-proof : goal.append_conditions-requires-clause-proof
append_conditions-requires-clause-proof c =
    is_proof c.scripts_are_proofs.ensures (source_view c.args.subject.now.source) (plain_system c.args.subject.now.fts) (plain_script c.args.script.now) c.requires.subject.system c.requires.script

pub append_conditions-requires-clause-written : goal.append_conditions-requires-clause-written
append_conditions-requires-clause-written c =
    is_written c.scripts_are_over.ensures c.over_is_written.ensures (source_view c.args.subject.now.source) (plain_system c.args.subject.now.fts) (plain_script c.args.script.now) c.requires.subject.spelled
    c.requires.subject.system c.requires.script

pub append_conditions-requires-clause-before : goal.append_conditions-requires-clause-before
append_conditions-requires-clause-before c =
    known-are (source_view c.args.subject.now.source) (plain_system c.args.subject.now.fts) (take c.args.known (plain_script c.args.script.now)) c.requires.subject.system (plain_list c.args.list.now) c.requires.before

pub returns-in-Ok-clause-listed : goal.returns-in-Ok-clause-listed
returns-in-Ok-clause-listed c =
    conditions-are (source_view c.args.subject.now.source) (plain_system c.args.subject.now.fts) (plain_script c.args.script.now) c.requires.subject.system c.append_conditions.new.list.items c.in-Ok.ensures.made
    c.in-Ok.ensures.searchable

pub returns-in-Err-TooMany-clause-listed : goal.returns-in-Err-TooMany-clause-listed
returns-in-Err-TooMany-clause-listed c =
    conditions-not (source_view c.args.subject.now.source) (plain_system c.args.subject.now.fts) (plain_script c.args.script.now) c.requires.subject.system c.append_conditions.new.list.items
    (limits.TooMany, c.in-Err-TooMany.field-0-0) (rw c.in-Err-TooMany.field-0-is at c.in-Err-TooMany.ensures.refused)

pub returns-in-Err-TooWide-clause-listed : goal.returns-in-Err-TooWide-clause-listed
returns-in-Err-TooWide-clause-listed c =
    conditions-not (source_view c.args.subject.now.source) (plain_system c.args.subject.now.fts) (plain_script c.args.script.now) c.requires.subject.system c.append_conditions.new.list.items
    (limits.TooWide, c.in-Err-TooWide.field-0-0) (rw c.in-Err-TooWide.field-0-is at c.in-Err-TooWide.ensures.refused)

pub returns-in-Err-TooHeavy-clause-listed : goal.returns-in-Err-TooHeavy-clause-listed
returns-in-Err-TooHeavy-clause-listed c =
    conditions-not (source_view c.args.subject.now.source) (plain_system c.args.subject.now.fts) (plain_script c.args.script.now) c.requires.subject.system c.append_conditions.new.list.items
    (limits.TooHeavy, c.in-Err-TooHeavy.field-0-0) (rw c.in-Err-TooHeavy.field-0-is at c.in-Err-TooHeavy.ensures.refused)
