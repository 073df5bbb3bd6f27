use Rattle.diagram_reader.proofs.Shrinking.{linear_shrinks}
use Rattle.proof_script.proofs.units.sum.Goals as goal

pub returns-clause-shrinks : goal.returns-clause-shrinks
returns-clause-shrinks c = linear_shrinks _ _ _ _ c.in_ok-read_linear.ensures
