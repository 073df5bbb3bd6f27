use Rattle.std.proofs.Common.{refl, subst}
use Rattle.temporal_goals.specs.Plain.{plain_script}
use Rattle.obligations.specs.Made.{AllValid}
use Rattle.posed_conditions.proofs.Obliging.{is_proof, is_written}
use Rattle.posed_conditions.proofs.scripts.obliged.Goals as goal

pub conditions_of-requires-clause-proof : goal.conditions_of-requires-clause-proof
conditions_of-requires-clause-proof c = is_proof c.scripts_are_proofs.ensures c.args.source.now (plain_script c.args.script) c.requires.spelled

pub conditions_of-requires-clause-written : goal.conditions_of-requires-clause-written
conditions_of-requires-clause-written c =
    is_written c.scripts_are_over.ensures c.over_is_written.ensures c.args.source.now (plain_script c.args.script) c.requires.translated c.requires.spelled

pub returns-in-Ok-clause-made : goal.returns-in-Ok-clause-made
returns-in-Ok-clause-made c = λ text spelled. record {
  made = record {
    text = text;
    spelled = spelled;
    fits = c.in-Ok.ensures.made.0;
    made = c.in-Ok.ensures.made.1;
    sound = λ valid. c.in-Ok.ensures.sound (subst (λ k. AllValid k c.in-Ok.conditions.items) c.requires.translated.control valid);
    few = c.in-Ok.ensures.few;
    searchable = c.in-Ok.ensures.searchable;
  };
  same = refl;
}
