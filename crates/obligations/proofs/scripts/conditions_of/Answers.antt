use Rattle.std.proofs.Common.{◌∙◌, ap, sym, subst, map, List}
use Rattle.st_form.specs.Plain.{plain}
use Rattle.st_form.specs.Shared.{plain_condition}
use Rattle.st_program.specs.Plain.{plain_children}
use Rattle.control_facts.specs.Alternatives.{control_of}
use Rattle.transition_system.specs.Plain.{plain_system}
use Rattle.temporal_goals.specs.Plain.{plain_step, plain_script}
use Rattle.temporal_goals.specs.declared.scripts.Step.{Step}
use Rattle.vc_generator.specs.Plain.{View}
use Rattle.vc_generator.proofs.Growing.{conditions}
use Rattle.script_laws.specs.Script.{script_list}
use Rattle.script_obligations.specs.Laws.{ScriptsHold}
use Rattle.obligations.proofs.Valid.{are-valid}
use Rattle.obligations.proofs.scripts.conditions_of.Goals as goal

pub returns-clause-sound : goal.returns-clause-sound
returns-clause-sound c valid =
    let p = plain_children c.args.program.now.processes in
    let steps = plain_script c.args.script.now in
    let system = plain_system c.args.fts.now in
    let made =
    ap (λ (v : View). map plain_condition v.items) c.list.view_is
    ∙ c.in_ok-list.ensures.made.1
    ∙ ap (λ (xs : List Step). conditions (script_list system (map plain_step xs))) c.deref.ensures.value
    in
    let hold = subst (ScriptsHold p (plain c.args.program.now.initial)) (sym c.requires.system) c.scripts_hold.ensures in
    hold steps c.requires.proof (are-valid (control_of p) c.list.inside.items.items (script_list system steps) made valid)
