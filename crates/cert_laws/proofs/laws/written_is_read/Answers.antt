use Rattle.cert_laws.proofs.WrittenRead.{written-answered}
use Rattle.cert_laws.proofs.laws.written_is_read.Goals as goal

pub returns : goal.returns
returns c h w rest n p e = written-answered h w rest n p e
