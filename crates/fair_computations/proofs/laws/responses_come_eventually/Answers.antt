use Rattle.fair_computations.proofs.Fairly.{eventually}
use Rattle.fair_computations.proofs.laws.responses_come_eventually.Goals as goal

pub returns : goal.returns
returns g c p q e run responds fair = eventually run p q e responds fair
