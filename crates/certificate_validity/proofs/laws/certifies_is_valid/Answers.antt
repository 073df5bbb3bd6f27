use Rattle.certificate_validity.proofs.Whole as proved
use Rattle.certificate_validity.proofs.laws.certifies_is_valid.Goals as goal

pub returns : goal.returns
returns c = proved.certifies_is_valid
