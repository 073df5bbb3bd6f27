use Rattle.observations.proofs.DiagramNet.{response_by_diagram}
use Rattle.observations.proofs.laws.diagram_bounds.Goals as goal

pub returns : goal.returns
returns g c nodes terminal p q e o drawn = response_by_diagram nodes terminal p q e o drawn
