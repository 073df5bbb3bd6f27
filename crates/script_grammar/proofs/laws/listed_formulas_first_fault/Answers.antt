use Rattle.script_grammar.proofs.ListedForms as proved
use Rattle.script_grammar.proofs.laws.listed_formulas_first_fault.Goals as goal

pub returns : goal.returns
returns c = proved.listed_formulas_first_fault
