use Rattle.script_grammar.proofs.References as proved
use Rattle.script_grammar.proofs.laws.new_names_first_fault.Goals as goal

pub returns : goal.returns
returns c = proved.new_names_first_fault
