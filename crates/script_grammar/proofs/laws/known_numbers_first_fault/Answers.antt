use Rattle.script_grammar.proofs.TokenLaws as proved
use Rattle.script_grammar.proofs.laws.known_numbers_first_fault.Goals as goal

pub returns : goal.returns
returns c = proved.known_numbers_first_fault
