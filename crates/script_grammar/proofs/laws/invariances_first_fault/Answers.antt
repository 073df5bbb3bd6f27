use Rattle.script_grammar.proofs.JudgedClaims as proved
use Rattle.script_grammar.proofs.laws.invariances_first_fault.Goals as goal

pub returns : goal.returns
returns c = proved.invariances_first_fault
