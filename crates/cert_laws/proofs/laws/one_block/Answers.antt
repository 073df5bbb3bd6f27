use Rattle.cert_laws.proofs.OneRead.{one-block}
use Rattle.cert_laws.proofs.laws.one_block.Goals as goal

pub returns : goal.returns
returns c number second w v bs cs rest more n p q h k e = one-block number second w v bs cs rest more n p q h k e
