use Rattle.st_tokens.proofs.Shifting as proved
use Rattle.st_tokens.proofs.laws.tokens_are_slices.Goals as goal

pub returns : goal.returns
returns c = proved.tokens_are_there
