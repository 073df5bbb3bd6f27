use Rattle.script_grammar.proofs.ListedItems as proved
use Rattle.script_grammar.proofs.laws.rankings_first_fault.Goals as goal

pub returns : goal.returns
returns c = proved.rankings_first_fault
