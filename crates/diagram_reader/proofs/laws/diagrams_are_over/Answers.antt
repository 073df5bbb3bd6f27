use Rattle.diagram_reader.proofs.Speaking.{diagram_over}
use Rattle.diagram_reader.proofs.laws.diagrams_are_over.Goals as goal

pub returns : goal.returns
returns c = λ vs locations kind levels names system over s d rest h. diagram_over vs locations (record { kind = kind; levels = levels; names = names; system = system }) over s d rest h
