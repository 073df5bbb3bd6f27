use Rattle.judging_laws.proofs.Sentences.{waiting-decides}
use Rattle.judging_laws.proofs.laws.waiting_is_tested.Goals as goal

pub returns : goal.returns
returns g c p forms o i within = waiting-decides p forms o i within
