use Rattle.cert_laws.proofs.Answers.{limit_is_true, limit_is_answered}
use Rattle.cert_laws.proofs.laws.limit_is_exact.Goals as goal

pub returns : goal.returns
returns c h place l = (limit_is_true h l place, limit_is_answered h l place)
