use Rattle.printed_formulas.proofs.Words as proved
use Rattle.printed_formulas.proofs.laws.names_are_tokens.Goals as goal

pub returns : goal.returns
returns c = proved.name_front
