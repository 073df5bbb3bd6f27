use Rattle.script_grammar.proofs.ListedItems as proved
use Rattle.script_grammar.proofs.laws.fair_lists_first_fault.Goals as goal

pub returns : goal.returns
returns c = proved.fair_lists_first_fault
