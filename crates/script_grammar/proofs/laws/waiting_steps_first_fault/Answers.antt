use Rattle.script_grammar.proofs.JudgedSteps as proved
use Rattle.script_grammar.proofs.laws.waiting_steps_first_fault.Goals as goal

pub returns : goal.returns
returns c = proved.waiting_steps_first_fault
