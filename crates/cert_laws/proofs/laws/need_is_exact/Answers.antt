use Rattle.cert_laws.proofs.Answers.{need_is_true}
use Rattle.cert_laws.proofs.Answered.{need_is_answered}
use Rattle.cert_laws.proofs.laws.need_is_exact.Goals as goal

pub returns : goal.returns
returns c h l = (need_is_true h l, need_is_answered h l)
