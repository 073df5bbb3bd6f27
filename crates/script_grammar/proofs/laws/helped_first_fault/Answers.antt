use Rattle.script_grammar.proofs.JudgedItems as proved
use Rattle.script_grammar.proofs.laws.helped_first_fault.Goals as goal

pub returns : goal.returns
returns c = proved.helped_first_fault
