use Rattle.script_grammar.proofs.JudgedClaims as proved
use Rattle.script_grammar.proofs.laws.fair_first_fault.Goals as goal

pub returns : goal.returns
returns c = proved.fair_first_fault
