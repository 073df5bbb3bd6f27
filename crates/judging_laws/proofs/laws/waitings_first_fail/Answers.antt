use Rattle.judging_laws.proofs.Sentences.{waiting-fails}
use Rattle.judging_laws.proofs.laws.waitings_first_fail.Goals as goal

pub returns : goal.returns
returns g c p forms o failure = waiting-fails p forms o failure
