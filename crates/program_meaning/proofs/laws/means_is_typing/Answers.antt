use Rattle.program_meaning.proofs.Whole as proved
use Rattle.program_meaning.proofs.laws.means_is_typing.Goals as goal

pub returns : goal.returns
returns c = proved.means_is_typing
