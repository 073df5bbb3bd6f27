use Rattle.script_grammar.proofs.UnitLaws as proved
use Rattle.script_grammar.proofs.laws.formulas_first_fault.Goals as goal

pub returns : goal.returns
returns c = proved.formulas_first_fault
