-- What a drawing has so far, and the rules on its nodes and edges.
use Rattle.std.specs.Prelude.{ℕ, Bool, true, false, ◌==◌, ◌||◌, nat_lt, List, [], ◌∷◌, ◌++◌, map, Option, Some, None}
use Rattle.std.specs.List.{list_any}
use Rattle.st_form.specs.Formula.{Formula}
use Rattle.st_form.specs.Plain.{plain}
use Rattle.st_form.specs.declared.formulas.Form.{Form}
use Rattle.st_program.specs.Names.{Names}
use Rattle.transition_system.specs.Systems.{System}
use Rattle.transition_system.specs.Plain.{plain_system}
use Rattle.temporal_goals.specs.Texts.{PlainDrawnNode, PlainEdge, PlainDiagram}
use Rattle.temporal_goals.specs.Plain.{plain_drawn_node, plain_edge}
use Rattle.temporal_goals.specs.declared.diagrams.DiagramKind.{DiagramKind}
use Rattle.temporal_goals.specs.declared.diagrams.DiagramKind.TheVariants.{Wait, Chain, Rank}
use Rattle.diagram_reader.specs.declared.setting.Setting as code
use Rattle.diagram_reader.specs.declared.drawing.Drawing as code_drawing

-- what a drawing is read for: its kind, the highest level of a wait diagram, the names of the program, and its transitions
pub record Setting : Type 0 where
  pub kind : DiagramKind
  pub levels : ℕ
  pub names : Names
  pub system : System

abbrev pub setting_view : code.Setting → Setting
setting_view g = record { kind = g.kind; levels = g.levels; names = g.names.now; system = plain_system g.fts.now }

-- the terminal node's formula, the nodes and the edges, as far as they were read
pub record Drawing : Type 0 where
  pub terminal : Option Formula
  pub nodes : List PlainDrawnNode
  pub edges : List PlainEdge

abbrev pub terminal_view : Option Form → Option Formula
terminal_view None = None
terminal_view (Some f) = Some (plain f)

abbrev pub drawing_view : code_drawing.Drawing → Drawing
drawing_view d = record { terminal = terminal_view d.terminal; nodes = map plain_drawn_node d.nodes.items; edges = map plain_edge d.edges.items }

abbrev pub nothing_drawn : Drawing
nothing_drawn = record { terminal = None; nodes = []; edges = [] }

abbrev pub with_terminal : Formula → Drawing → Drawing
with_terminal f d = record { terminal = Some f; nodes = d.nodes; edges = d.edges }

abbrev pub with_node : PlainDrawnNode → Drawing → Drawing
with_node n d = record { terminal = d.terminal; nodes = d.nodes ++ n ∷ []; edges = d.edges }

abbrev pub with_edge : PlainEdge → Drawing → Drawing
with_edge e d = record { terminal = d.terminal; nodes = d.nodes; edges = d.edges ++ e ∷ [] }

-- the whole diagram, with the formula of its terminal node
abbrev pub diagram_with : DiagramKind → Drawing → Formula → PlainDiagram
diagram_with kind d f = record { kind = kind; terminal = f; nodes = d.nodes; edges = d.edges }

-- the number is that of the terminal node, which is 0, or of one of these nodes
abbrev pub is_known : ℕ → List PlainDrawnNode → Bool
is_known number nodes = (number == 0) || list_any (λ n. n.number == number) nodes

-- a node's number in a wait diagram is a level of the goal
abbrev pub is_above : DiagramKind → ℕ → ℕ → Bool
is_above Wait levels number = nat_lt levels number
is_above Chain levels number = false
is_above Rank levels number = false

-- An edge goes upward from the terminal node, and, where numbers are levels or ranks, to a higher number.
abbrev pub is_upward : DiagramKind → ℕ → ℕ → Bool
is_upward Wait from to = (from == 0) || nat_lt from to
is_upward Chain from to = (from == 0) || nat_lt from to
is_upward Rank from to = from == 0

abbrev pub has_ranks : DiagramKind → Bool
has_ranks Wait = false
has_ranks Chain = false
has_ranks Rank = true

abbrev pub has_helpers : DiagramKind → Bool
has_helpers Wait = false
has_helpers Chain = true
has_helpers Rank = true
