use Rattle.judging_laws.proofs.Counted.{rounds-decide}
use Rattle.judging_laws.proofs.laws.rounds_are_tested.Goals as goal

pub returns : goal.returns
returns g c o n k l = rounds-decide o n k l
