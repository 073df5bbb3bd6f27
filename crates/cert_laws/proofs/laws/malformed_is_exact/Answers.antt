use Rattle.cert_laws.proofs.Answers.{malformed_is_true}
use Rattle.cert_laws.proofs.Answered.{malformed_is_answered}
use Rattle.cert_laws.proofs.laws.malformed_is_exact.Goals as goal

pub returns : goal.returns
returns c h place l = (malformed_is_true h l place, malformed_is_answered h l place)
