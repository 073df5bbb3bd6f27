use Rattle.typing_laws.proofs.Whole as proved
use Rattle.typing_laws.proofs.laws.typed_is_well.Goals as goal

pub returns : goal.returns
returns c = proved.typed_is_well
