use Rattle.group_limits.proofs.Paths as proved
use Rattle.group_limits.proofs.laws.paths_are_choices.Goals as goal

pub returns : goal.returns
returns c = proved.paths_are_choices
