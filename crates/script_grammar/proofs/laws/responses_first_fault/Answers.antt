use Rattle.script_grammar.proofs.JudgedResponses as proved
use Rattle.script_grammar.proofs.laws.responses_first_fault.Goals as goal

pub returns : goal.returns
returns c = proved.responses_first_fault
