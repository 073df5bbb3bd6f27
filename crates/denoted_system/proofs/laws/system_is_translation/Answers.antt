use Rattle.denoted_system.proofs.Same as proved
use Rattle.denoted_system.proofs.laws.system_is_translation.Goals as goal

pub returns : goal.returns
returns c = proved.system_is_translation
