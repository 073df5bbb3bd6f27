use Rattle.certificate_grammar.proofs.Texts as proved
use Rattle.certificate_grammar.proofs.laws.certificates_are_blocks.Goals as goal

pub returns : goal.returns
returns c = proved.certificates_are_blocks
