use Rattle.sharing_laws.proofs.Moving.{contexts-find}
use Rattle.sharing_laws.proofs.laws.contexts_find_the_same.Goals as goal

pub returns : goal.returns
returns c = contexts-find
