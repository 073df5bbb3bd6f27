use Rattle.judging_laws.proofs.Sentences.{response-fails}
use Rattle.judging_laws.proofs.laws.responses_first_fail.Goals as goal

pub returns : goal.returns
returns g c p q e o failure = response-fails p q e o failure
