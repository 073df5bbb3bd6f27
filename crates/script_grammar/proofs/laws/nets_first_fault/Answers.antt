use Rattle.script_grammar.proofs.NetNodes as proved
use Rattle.script_grammar.proofs.laws.nets_first_fault.Goals as goal

pub returns : goal.returns
returns c = proved.nets_first_fault
