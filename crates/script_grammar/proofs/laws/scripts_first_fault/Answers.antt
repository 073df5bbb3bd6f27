use Rattle.script_grammar.proofs.Scripts as proved
use Rattle.script_grammar.proofs.laws.scripts_first_fault.Goals as goal

pub returns : goal.returns
returns c = proved.scripts_first_fault
