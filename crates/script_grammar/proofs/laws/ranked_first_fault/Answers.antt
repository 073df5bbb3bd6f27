use Rattle.script_grammar.proofs.JudgedItems as proved
use Rattle.script_grammar.proofs.laws.ranked_first_fault.Goals as goal

pub returns : goal.returns
returns c = proved.ranked_first_fault
