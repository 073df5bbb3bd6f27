use Rattle.assertion_grammar.proofs.Forms as proved
use Rattle.assertion_grammar.proofs.laws.forms_are_told.Goals as goal

pub returns : goal.returns
returns c = proved.forms_are_told
