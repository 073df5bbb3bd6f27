use Rattle.temporal_goals.specs.declared.diagrams.DiagramKind.TheVariants.{Wait}
use Rattle.diagram_reader.proofs.Obeying.{diagram_obeys}
use Rattle.diagram_reader.proofs.Speaking.{levels_exist}
use Rattle.diagram_reader.proofs.laws.wait_diagrams_fit.Goals as goal

pub returns : goal.returns
returns c = λ levels names system s d rest h.
    levels_exist levels system d.nodes (diagram_obeys (record { kind = Wait; levels = levels; names = names; system = system }) s d rest h).nodes
