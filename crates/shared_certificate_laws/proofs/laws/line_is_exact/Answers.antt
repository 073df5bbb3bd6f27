use Rattle.shared_certificate_laws.proofs.LineLaws.{line_exact}
use Rattle.shared_certificate_laws.proofs.laws.line_is_exact.Goals as goal

pub returns : goal.returns
returns c = line_exact
