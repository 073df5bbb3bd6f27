use Rattle.script_grammar.proofs.JudgedSteps as proved
use Rattle.script_grammar.proofs.laws.invariance_steps_first_fault.Goals as goal

pub returns : goal.returns
returns c = proved.invariance_steps_first_fault
