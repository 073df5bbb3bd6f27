use Rattle.cert_laws.proofs.BlockRead.{block-answered}
use Rattle.cert_laws.proofs.laws.spelled_is_read.Goals as goal

pub returns : goal.returns
returns c h w bs rest n p s e = block-answered h w bs rest n p s e
