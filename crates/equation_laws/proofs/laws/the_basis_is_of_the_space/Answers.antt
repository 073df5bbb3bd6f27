use Rattle.equation_laws.proofs.Within.{the-basis}
use Rattle.equation_laws.proofs.laws.the_basis_is_of_the_space.Goals as goal

pub returns : goal.returns
returns c = the-basis
