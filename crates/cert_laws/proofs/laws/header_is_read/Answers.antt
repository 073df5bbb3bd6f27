use Rattle.cert_laws.proofs.HeaderRead.{header-answered}
use Rattle.cert_laws.proofs.laws.header_is_read.Goals as goal

pub returns : goal.returns
returns c h w head bs rest l f i p s e = header-answered h w head bs rest l f i p s e
