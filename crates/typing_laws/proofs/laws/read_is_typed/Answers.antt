use Rattle.typing_laws.proofs.Texts as proved
use Rattle.typing_laws.proofs.laws.read_is_typed.Goals as goal

pub returns : goal.returns
returns c = proved.read_is_typed
