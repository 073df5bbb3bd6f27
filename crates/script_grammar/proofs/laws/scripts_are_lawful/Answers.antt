use Rattle.script_grammar.proofs.Lawful as proved
use Rattle.script_grammar.proofs.laws.scripts_are_lawful.Goals as goal

pub returns : goal.returns
returns c = proved.scripts_are_lawful
