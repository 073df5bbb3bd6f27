use Rattle.declared_names.proofs.Whole as proved
use Rattle.declared_names.proofs.laws.names_are_words.Goals as goal

pub returns : goal.returns
returns c = proved.names_are_words
