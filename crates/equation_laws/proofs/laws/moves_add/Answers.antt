use Rattle.equation_laws.proofs.Moved.{moves-add}
use Rattle.equation_laws.proofs.laws.moves_add.Goals as goal

pub returns : goal.returns
returns c = moves-add
