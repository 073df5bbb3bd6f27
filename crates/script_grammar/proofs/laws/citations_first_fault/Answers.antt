use Rattle.script_grammar.proofs.TokenLaws as proved
use Rattle.script_grammar.proofs.laws.citations_first_fault.Goals as goal

pub returns : goal.returns
returns c = proved.citations_first_fault
