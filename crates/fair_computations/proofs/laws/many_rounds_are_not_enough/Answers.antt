use Rattle.fair_computations.proofs.Sparse.{not_enough}
use Rattle.fair_computations.proofs.laws.many_rounds_are_not_enough.Goals as goal

pub returns : goal.returns
returns c = not_enough
