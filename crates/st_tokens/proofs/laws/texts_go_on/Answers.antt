use Rattle.st_tokens.proofs.Shifting as proved
use Rattle.st_tokens.proofs.laws.texts_go_on.Goals as goal

pub returns : goal.returns
returns c = proved.texts_go_on
