use Rattle.transition_system.specs.Plain.{plain_system}
use Rattle.temporal_goals.specs.Plain.{plain_script}
use Rattle.script_laws.specs.Script.{script_list}
use Rattle.step_run.specs.Views.{source_view}
use Rattle.step_run.proofs.Posing.{translation_is, is_proof, is_written, obliged_on, obliged_over, few_conditions}
use Rattle.step_run.proofs.Readied.{all_named, few_variables}
use Rattle.step_run.proofs.posed.obliged.Goals as goal

pub conditions_of-requires-clause-system : goal.conditions_of-requires-clause-system
conditions_of-requires-clause-system c = translation_is (source_view c.args.scripted.source) (plain_system c.args.scripted.fts) c.requires.system

pub conditions_of-requires-clause-proof : goal.conditions_of-requires-clause-proof
conditions_of-requires-clause-proof c =
    is_proof c.scripts_are_proofs.ensures (source_view c.args.scripted.source) (plain_system c.args.scripted.fts) (plain_script c.args.scripted.script) c.requires.system c.requires.script

pub conditions_of-requires-clause-written : goal.conditions_of-requires-clause-written
conditions_of-requires-clause-written c =
    is_written c.scripts_are_over.ensures c.over_is_written.ensures (source_view c.args.scripted.source) (plain_system c.args.scripted.fts) (plain_script c.args.scripted.script) c.requires.spelled
    c.requires.system c.requires.script

pub returns-in-Ok-clause-settles : goal.returns-in-Ok-clause-settles
returns-in-Ok-clause-settles c =
    obliged_on (source_view c.args.scripted.source) (plain_system c.args.scripted.fts) (plain_script c.args.scripted.script) c.requires.system c.in-Ok.conditions.items c.in-Ok.ensures.made

pub returns-in-Ok-clause-ready : goal.returns-in-Ok-clause-ready
returns-in-Ok-clause-ready c = record {
  named = all_named (source_view c.args.scripted.source) c.requires.spelled;
  few_variables = few_variables (source_view c.args.scripted.source) c.requires.spelled;
  few = few_conditions c.in-Ok.conditions.items (script_list (plain_system c.args.scripted.fts) (plain_script c.args.scripted.script)) c.in-Ok.ensures.made;
  searchable = c.in-Ok.ensures.searchable;
}

pub returns-in_ok-passed-in-Err-clause-settles : goal.returns-in_ok-passed-in-Err-clause-settles
returns-in_ok-passed-in-Err-clause-settles c =
    obliged_over (source_view c.args.scripted.source) (plain_system c.args.scripted.fts) (plain_script c.args.scripted.script) c.requires.system c.in-Err.fault c.in_ok-passed-in-Err.field-0 c.in-Err.ensures.refused
    c.in_ok-passed-in-Err.ensures.outcome c.in_ok-passed-in-Err.ensures.decided
