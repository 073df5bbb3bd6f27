use Rattle.group_limits.proofs.Weights as proved
use Rattle.group_limits.proofs.laws.weights_are_added.Goals as goal

pub returns : goal.returns
returns c = proved.weights_are_added
