use Rattle.assertion_grammar.proofs.Forms as proved
use Rattle.assertion_grammar.proofs.laws.spelled_linears_are_read.Goals as goal

pub returns : goal.returns
returns c = proved.spelled_linears_are_read
