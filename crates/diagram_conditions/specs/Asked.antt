-- What a verification diagram asks of a system, and when it fits: its kind is the goal's.
use Rattle.std.specs.Prelude.{ℕ, List, [], ◌∷◌, length, ⊤}
use Rattle.st_linear.specs.Linear.{Linear}
use Rattle.st_form.specs.Formula.{Formula}
use Rattle.transition_system.specs.Systems.{System}
use Rattle.temporal_goals.specs.Texts.{PlainGoal, invariant, waiting, response, PlainDrawnNode, PlainDiagram}
use Rattle.temporal_goals.specs.declared.diagrams.DiagramKind.{DiagramKind}
use Rattle.temporal_goals.specs.declared.diagrams.DiagramKind.TheVariants.{Wait, Chain, Rank}
use Rattle.vc_generator.specs.Building.{Draft}
use Rattle.rule_laws.specs.Diagrams.{drawn_rank, wait_list, chain_list, rank_list}
use Rattle.rule_fits.specs.Fitting.{CanFall, DrawnNodesFit, LevelsExist}

abbrev pub RanksCanFall : List PlainDrawnNode → Type 0
RanksCanFall [] = ⊤
RanksCanFall (n ∷ ns) = CanFall (drawn_rank n) × RanksCanFall ns

-- a wait diagram for nested waiting-for with so many formulas: each node's number is a level of the goal
abbrev pub FitsWaitDiagram : DiagramKind → ℕ → PlainDiagram → Type 0
FitsWaitDiagram Wait count d = LevelsExist count d.nodes
FitsWaitDiagram Chain count d = ⊥
FitsWaitDiagram Rank count d = ⊥

-- a chain or rank diagram for a response: each node has a number above 0 and a just helper
abbrev pub FitsResponseDiagram : DiagramKind → System → PlainDiagram → Type 0
FitsResponseDiagram Wait system d = ⊥
FitsResponseDiagram Chain system d = DrawnNodesFit system d.nodes
FitsResponseDiagram Rank system d = DrawnNodesFit system d.nodes

abbrev pub FitsGoal : PlainGoal → PlainDiagram → System → Type 0
FitsGoal (invariant p) d system = ⊥
FitsGoal (waiting p goals) d system = FitsWaitDiagram d.kind (length goals) d
FitsGoal (response p q e) d system = FitsResponseDiagram d.kind system d

-- the bound of a response can fall
abbrev pub BoundCanFall : PlainGoal → Type 0
BoundCanFall (invariant p) = ⊤
BoundCanFall (waiting p goals) = ⊤
BoundCanFall (response p q e) = CanFall e

-- the diagram fits the goal, and its numbers are small enough to be lowered
pub record Fits (goal : PlainGoal) (d : PlainDiagram) (system : System) : Type 0 where
  pub goal_fits : FitsGoal goal d system
  pub bound : BoundCanFall goal
  pub ranks : RanksCanFall d.nodes

-- the conditions of the diagram's kind; of a kind that isn't the goal's none
abbrev pub wait_diagram_asks : DiagramKind → ℕ → System → List Formula → Formula → List Formula → PlainDiagram → List Draft
wait_diagram_asks Wait step system lemmas p goals d = wait_list step system lemmas p goals d
wait_diagram_asks Chain step system lemmas p goals d = []
wait_diagram_asks Rank step system lemmas p goals d = []

abbrev pub response_diagram_asks : DiagramKind → ℕ → System → List Formula → Formula → Formula → Linear → PlainDiagram → List Draft
response_diagram_asks Wait step system lemmas p q e d = []
response_diagram_asks Chain step system lemmas p q e d = chain_list step system lemmas p q e d
response_diagram_asks Rank step system lemmas p q e d = rank_list step system lemmas p q e d

abbrev pub drawn_asks : PlainGoal → PlainDiagram → List Formula → System → ℕ → List Draft
drawn_asks (invariant p) d lemmas system step = []
drawn_asks (waiting p goals) d lemmas system step = wait_diagram_asks d.kind step system lemmas p goals d
drawn_asks (response p q e) d lemmas system step = response_diagram_asks d.kind step system lemmas p q e d
