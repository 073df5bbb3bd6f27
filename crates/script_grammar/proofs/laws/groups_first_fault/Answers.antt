use Rattle.script_grammar.proofs.References as proved
use Rattle.script_grammar.proofs.laws.groups_first_fault.Goals as goal

pub returns : goal.returns
returns c = proved.groups_first_fault
