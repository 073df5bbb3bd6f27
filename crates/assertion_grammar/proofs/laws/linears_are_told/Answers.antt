use Rattle.assertion_grammar.proofs.Forms as proved
use Rattle.assertion_grammar.proofs.laws.linears_are_told.Goals as goal

pub returns : goal.returns
returns c = proved.linears_are_told
