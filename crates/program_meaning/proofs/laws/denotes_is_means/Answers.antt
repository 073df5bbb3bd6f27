use Rattle.program_meaning.proofs.Denoting as proved
use Rattle.program_meaning.proofs.laws.denotes_is_means.Goals as goal

pub returns : goal.returns
returns c = proved.denotes_is_means
