use Rattle.script_grammar.proofs.UnitLaws as proved
use Rattle.script_grammar.proofs.laws.sums_first_fault.Goals as goal

pub returns : goal.returns
returns c = proved.sums_first_fault
