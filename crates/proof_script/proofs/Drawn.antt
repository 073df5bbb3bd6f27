-- A diagram that is read speaks of what the names stand for, and its nodes have small numbers.
use Rattle.std.proofs.Common.{◌≡◌, ℕ, List, Option, Some, None, Ok}
use Rattle.st_tokens.specs.Stream.{Stream}
use Rattle.st_linear.specs.Linear.{Linear}
use Rattle.st_form.specs.declared.variables.Variable.{Variable}
use Rattle.temporal_goals.specs.Texts.{PlainDrawnNode, PlainDiagram}
use Rattle.expression_typer.specs.Naming.{names_of, NamesOver}
use Rattle.diagram_reader.specs.Drawn.{Setting}
use Rattle.diagram_reader.specs.Drawing.{drawing_of}
use Rattle.diagram_reader.specs.Obeying as diagrams
use Rattle.diagram_reader.proofs.Speaking.{diagram_over}
use Rattle.script_speech.specs.Over.{RankOver, DrawnOver, DiagramOver}
use Rattle.proof_script.proofs.Numbering.{IsNumbered, diagram_numbered}

module _ (vs : List Variable) (locations : ℕ) where
  rank_as : (r : Option Linear) → diagrams.RankOver vs r → RankOver vs locations r
  rank_as None h = tt
  rank_as (Some f) h = h

  node_as : (n : PlainDrawnNode) → diagrams.NodeOver vs locations n → IsNumbered n → DrawnOver vs locations n
  node_as n over number = record { number = number; form = over.form; rank = rank_as n.rank over.rank }

  pub drawn_over : (g : Setting) → NamesOver vs locations (names_of g.names) → (s : Stream) (x : PlainDiagram) (rest : Stream) → drawing_of g s ≡ Ok (x, rest) → DiagramOver vs locations x
  drawn_over g over s x rest h =
      let d = diagram_over vs locations g over s x rest h in
      let ns = diagram_numbered g s x rest h in
      record { terminal = d.terminal; nodes = λ k n lt. node_as _ (d.nodes k n lt) (ns k n lt) }
