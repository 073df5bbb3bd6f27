use Rattle.group_limits.proofs.Refusals as proved
use Rattle.group_limits.proofs.laws.paths_refuse.Goals as goal

pub returns : goal.returns
returns c = proved.paths_refuse
