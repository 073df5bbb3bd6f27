use Rattle.script_grammar.proofs.DrawingLaws as proved
use Rattle.script_grammar.proofs.laws.drawings_first_fault.Goals as goal

pub returns : goal.returns
returns c = proved.drawings_first_fault
