use Rattle.script_grammar.proofs.Lawful as proved
use Rattle.script_grammar.proofs.laws.diagrams_are_lawful.Goals as goal

pub returns : goal.returns
returns c = proved.diagrams_are_lawful
