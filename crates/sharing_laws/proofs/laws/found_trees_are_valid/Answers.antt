use Rattle.sharing_laws.proofs.Validity.{found-valid}
use Rattle.sharing_laws.proofs.laws.found_trees_are_valid.Goals as goal

pub returns : goal.returns
returns c = found-valid
