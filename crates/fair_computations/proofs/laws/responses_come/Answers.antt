use Rattle.fair_computations.proofs.Fairly.{response}
use Rattle.fair_computations.proofs.laws.responses_come.Goals as goal

pub returns : goal.returns
returns g c p q e run responds fair = response run p q e responds fair
