use Rattle.cert_laws.proofs.ReadBack.{read-spelled}
use Rattle.cert_laws.proofs.laws.read_is_spelled.Goals as goal

pub returns : goal.returns
returns c h n t l e = read-spelled h n t l e
