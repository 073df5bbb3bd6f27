use Rattle.group_limits.proofs.Atoms as proved
use Rattle.group_limits.proofs.laws.atoms_refuse.Goals as goal

pub returns : goal.returns
returns c = proved.atoms_refuse
