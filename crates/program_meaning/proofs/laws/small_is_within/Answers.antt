use Rattle.program_meaning.proofs.Sizes as proved
use Rattle.program_meaning.proofs.laws.small_is_within.Goals as goal

pub returns : goal.returns
returns c = proved.small_is_within
