use Rattle.shared_certificate_laws.proofs.LineLaws.{read_once}
use Rattle.shared_certificate_laws.proofs.laws.read_once.Goals as goal

pub returns : goal.returns
returns c = read_once
