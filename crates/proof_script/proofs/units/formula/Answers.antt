use Rattle.diagram_reader.proofs.Shrinking.{form_shrinks}
use Rattle.proof_script.proofs.units.formula.Goals as goal

pub returns-clause-shrinks : goal.returns-clause-shrinks
returns-clause-shrinks c = form_shrinks _ _ _ _ c.in_ok-read_form.ensures
