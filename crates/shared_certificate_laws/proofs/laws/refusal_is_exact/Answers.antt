use Rattle.shared_certificate_laws.proofs.LineLaws.{refusal_exact}
use Rattle.shared_certificate_laws.proofs.laws.refusal_is_exact.Goals as goal

pub returns : goal.returns
returns c = refusal_exact
