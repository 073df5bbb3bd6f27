use Rattle.fair_computations.proofs.Undecided.{told}
use Rattle.fair_computations.proofs.laws.rounds_tell_no_case.Goals as goal

pub returns : goal.returns
returns c tells test = told test tells
