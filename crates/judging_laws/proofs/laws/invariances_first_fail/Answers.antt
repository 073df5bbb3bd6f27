use Rattle.judging_laws.proofs.Sentences.{invariance-fails}
use Rattle.judging_laws.proofs.laws.invariances_first_fail.Goals as goal

pub returns : goal.returns
returns g c p o failure = invariance-fails p o failure
