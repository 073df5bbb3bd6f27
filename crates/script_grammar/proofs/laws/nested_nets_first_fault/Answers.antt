use Rattle.script_grammar.proofs.NestedNodes as proved
use Rattle.script_grammar.proofs.laws.nested_nets_first_fault.Goals as goal

pub returns : goal.returns
returns c = proved.nested_nets_first_fault
