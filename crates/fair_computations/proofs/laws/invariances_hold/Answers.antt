use Rattle.fair_computations.proofs.Fairly.{invariance, invariance_seen}
use Rattle.fair_computations.proofs.laws.invariances_hold.Goals as goal

pub returns : goal.returns
returns g c p run = (invariance run p, invariance_seen run p)
