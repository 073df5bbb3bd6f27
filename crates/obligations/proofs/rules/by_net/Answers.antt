use Rattle.temporal_goals.specs.Plain.{plain_goal, plain_net}
use Rattle.vc_generator.specs.Asked.{system_of}
use Rattle.obligations.proofs.Fitting.{net-fits}
use Rattle.obligations.proofs.rules.by_net.Goals as goal

pub conditions-requires : goal.conditions-requires
conditions-requires c = net-fits (system_of c.args.asking.now) (plain_goal c.args.goal.now) (plain_net c.args.nodes.now) c.requires.fits c.requires.goal c.requires.rule
