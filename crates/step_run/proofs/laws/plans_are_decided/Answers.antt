use Rattle.step_run.proofs.Faultless.{plans_decided}
use Rattle.step_run.proofs.laws.plans_are_decided.Goals as goal

pub returns : goal.returns
returns c = plans_decided c.read_is_typed.ensures
