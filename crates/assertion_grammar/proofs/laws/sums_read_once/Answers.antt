use Rattle.assertion_grammar.proofs.Forms as proved
use Rattle.assertion_grammar.proofs.laws.sums_read_once.Goals as goal

pub returns : goal.returns
returns c = proved.sums_read_once
