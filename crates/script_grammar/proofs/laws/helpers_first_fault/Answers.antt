use Rattle.script_grammar.proofs.References as proved
use Rattle.script_grammar.proofs.laws.helpers_first_fault.Goals as goal

pub returns : goal.returns
returns c = proved.helpers_first_fault
