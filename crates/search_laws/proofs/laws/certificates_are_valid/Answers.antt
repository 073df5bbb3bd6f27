use Rattle.search_laws.proofs.Finding.{proved}
use Rattle.search_laws.proofs.laws.certificates_are_valid.Goals as goal

pub returns : goal.returns
returns c = proved
