use Rattle.judging_laws.proofs.Sentences.{response-decides}
use Rattle.judging_laws.proofs.laws.responses_are_tested.Goals as goal

pub returns : goal.returns
returns g c p q e o i within = response-decides p q e o i
