use Rattle.diagram_reader.proofs.Obeying.{diagram_obeys}
use Rattle.diagram_reader.proofs.Speaking.{response_fits}
use Rattle.diagram_reader.proofs.laws.response_diagrams_fit.Goals as goal

pub returns : goal.returns
returns c = λ kind other levels names system s d rest h.
    response_fits kind levels system d.nodes other (diagram_obeys (record { kind = kind; levels = levels; names = names; system = system }) s d rest h).nodes
