use Rattle.program_meaning.proofs.Whole as proved
use Rattle.program_meaning.proofs.laws.meant_once.Goals as goal

pub returns : goal.returns
returns c = proved.meant_once
