use Rattle.group_limits.proofs.Answers as proved
use Rattle.group_limits.proofs.laws.groups_are_typed.Goals as goal

pub returns : goal.returns
returns c = proved.groups_are_typed
