use Rattle.diagram_reader.proofs.Obeying.{diagram_obeys}
use Rattle.diagram_reader.proofs.laws.diagrams_obey.Goals as goal

pub returns : goal.returns
returns c = λ kind levels names system s d rest h. diagram_obeys (record { kind = kind; levels = levels; names = names; system = system }) s d rest h
