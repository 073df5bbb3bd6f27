use Rattle.script_grammar.proofs.JudgedRules as proved
use Rattle.script_grammar.proofs.laws.rules_first_fault.Goals as goal

pub returns : goal.returns
returns c = proved.rules_first_fault
