use Rattle.search_laws.proofs.Steadying.{first-steady}
use Rattle.search_laws.proofs.laws.first_conjuncts_are_steady.Goals as goal

pub returns : goal.returns
returns c = first-steady
