use Rattle.std.proofs.Common.{subst}
use Rattle.temporal_goals.specs.Plain.{plain_goal, plain_diagram}
use Rattle.vc_generator.specs.Asked.{system_of, lemmas_of}
use Rattle.vc_generator.specs.Plain.{plain_list}
use Rattle.vc_generator.specs.Refusing.{AppendsAll}
use Rattle.obligations.proofs.Asking.{diagram-asks}
use Rattle.obligations.proofs.Fitting.{diagram-fits}
use Rattle.obligations.proofs.rules.by_diagram.Goals as goal

pub conditions-requires : goal.conditions-requires
conditions-requires c = diagram-fits (system_of c.args.asking.now) (plain_goal c.args.goal.now) (plain_diagram c.args.drawn.now) c.requires.fits c.requires.goal c.requires.rule

pub returns : goal.returns
returns c =
    subst (AppendsAll c.conditions.result (plain_list c.args.out.now) (plain_list c.conditions.new.out))
    (diagram-asks c.args.asking.now.step (system_of c.args.asking.now) (lemmas_of c.args.asking.now) (plain_goal c.args.goal.now) (plain_diagram c.args.drawn.now) c.requires.fits)
    c.conditions.ensures
