use Rattle.script_grammar.proofs.ListedItems as proved
use Rattle.script_grammar.proofs.laws.chains_first_fault.Goals as goal

pub returns : goal.returns
returns c = proved.chains_first_fault
