use Rattle.cert_laws.proofs.Trailing.{trailing-same}
use Rattle.cert_laws.proofs.laws.trailing_is_blank.Goals as goal

pub returns : goal.returns
returns c h = trailing-same h
