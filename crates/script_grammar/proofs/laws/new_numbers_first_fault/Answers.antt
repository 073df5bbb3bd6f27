use Rattle.script_grammar.proofs.TokenLaws as proved
use Rattle.script_grammar.proofs.laws.new_numbers_first_fault.Goals as goal

pub returns : goal.returns
returns c = proved.new_numbers_first_fault
