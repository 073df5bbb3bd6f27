use Rattle.shared_certificate_laws.proofs.LineLaws.{text_exact}
use Rattle.shared_certificate_laws.proofs.laws.text_is_exact.Goals as goal

pub returns : goal.returns
returns c = text_exact
