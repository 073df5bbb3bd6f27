use Rattle.elimination_laws.proofs.Refuting.{no_refutation}
use Rattle.elimination_laws.proofs.laws.no_refutation_is_overlooked.Goals as goal

pub returns : goal.returns
returns c = no_refutation
