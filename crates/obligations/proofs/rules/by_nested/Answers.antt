use Rattle.temporal_goals.specs.Plain.{plain_goal, plain_nested}
use Rattle.vc_generator.specs.Asked.{system_of}
use Rattle.obligations.proofs.Fitting.{nested-fits}
use Rattle.obligations.proofs.rules.by_nested.Goals as goal

pub conditions-requires : goal.conditions-requires
conditions-requires c = nested-fits (system_of c.args.asking.now) (plain_goal c.args.goal.now) (plain_nested c.args.nodes.now) c.requires.fits c.requires.goal c.requires.rule
