use Rattle.cert_laws.proofs.Answers.{end_is_true, end_is_answered}
use Rattle.cert_laws.proofs.laws.end_is_exact.Goals as goal

pub returns : goal.returns
returns c h l = (end_is_true h l, λ d. end_is_answered h l d.0 d.1)
