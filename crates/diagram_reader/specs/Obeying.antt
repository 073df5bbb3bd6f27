-- What every diagram that is read obeys, and that it fits its system and its goal.
use Rattle.std.specs.Prelude.{◌≡◌, ◌≢◌, ℕ, suc, ◌^◌, ◌<◌, ◌≤◌, ◌==◌, Bool, true, false, IsTrue, IsSome, List, [], ◌∷◌, length, All, Option, Some, None, Ok, ⊤, ◌⊎◌}
use Rattle.std.specs.List.{list_any}
use Rattle.st_tokens.specs.Stream.{Stream}
use Rattle.st_linear.specs.Linear.{Linear}
use Rattle.st_form.specs.Formula.{Formula}
use Rattle.st_form.specs.declared.variables.Variable.{Variable}
use Rattle.st_program.specs.Names.{Names}
use Rattle.st_program.specs.Types.{LinearFits}
use Rattle.observations.specs.Observation.{IsJust}
use Rattle.transition_system.specs.Systems.{System}
use Rattle.temporal_goals.specs.Texts.{PlainDrawnNode, PlainEdge, PlainDiagram}
use Rattle.temporal_goals.specs.declared.diagrams.DiagramKind.{DiagramKind}
use Rattle.temporal_goals.specs.declared.diagrams.DiagramKind.TheVariants.{Wait, Chain, Rank}
use Rattle.rule_fits.specs.Fitting.{fairness_of, DrawnNodesFit, LevelsExist}
use Rattle.expression_typer.specs.Naming.{names_of}
use Rattle.expression_typer.specs.Naming.{NamesOver}
use Rattle.assertions.specs.Over.{FormulaOver}
use Rattle.diagram_reader.specs.Drawing.{diagram_of}

-- a node's number is above 0, and in a wait diagram a level of the goal
abbrev pub NumberFits : DiagramKind → ℕ → ℕ → Type 0
NumberFits Wait levels n = (0 < n) × (n ≤ levels)
NumberFits Chain levels n = 0 < n
NumberFits Rank levels n = 0 < n

-- the nodes of rank diagrams have ranks, and no others
abbrev pub RankFits : DiagramKind → Option Linear → Type 0
RankFits Wait rank = rank ≡ None
RankFits Chain rank = rank ≡ None
RankFits Rank rank = (f : Linear) × (rank ≡ Some f)

-- the nodes of chain and rank diagrams have helpers, and these are just
abbrev pub HelperFits : DiagramKind → System → Option ℕ → Type 0
HelperFits Wait system helper = helper ≡ None
HelperFits Chain system helper = (h : ℕ) × (helper ≡ Some h) × IsJust (fairness_of system) h
HelperFits Rank system helper = (h : ℕ) × (helper ≡ Some h) × IsJust (fairness_of system) h

pub record NodeObeys (kind : DiagramKind) (levels : ℕ) (system : System) (n : PlainDrawnNode) : Type 0 where
  pub number : NumberFits kind levels n.number
  pub rank : RankFits kind n.rank
  pub helper : HelperFits kind system n.helper

-- one of the nodes has the number
abbrev pub is_numbered : ℕ → List PlainDrawnNode → Bool
is_numbered i nodes = list_any (λ n. n.number == i) nodes

-- no two nodes have one number
abbrev pub AreApart : List PlainDrawnNode → Type 0
AreApart [] = ⊤
AreApart (n ∷ ns) = (is_numbered n.number ns ≡ false) × AreApart ns

-- the edge leads to no higher number, where numbers say which node is lower
abbrev pub Descends : DiagramKind → ℕ → ℕ → Type 0
Descends Wait from to = to ≤ from
Descends Chain from to = to ≤ from
Descends Rank from to = ⊤

-- an edge leads from a node to a node or to the terminal node, which is 0, on transitions of the system
pub record EdgeObeys (kind : DiagramKind) (system : System) (nodes : List PlainDrawnNode) (e : PlainEdge) : Type 0 where
  pub from : is_numbered e.from nodes ≡ true
  pub to : (e.to ≡ 0) ⊎ (is_numbered e.to nodes ≡ true)
  pub descends : Descends kind e.from e.to
  pub on : All (λ t. t < length system.transitions) e.on

pub record Obeys (kind : DiagramKind) (levels : ℕ) (system : System) (d : PlainDiagram) : Type 0 where
  pub same_kind : d.kind ≡ kind
  pub few : length d.nodes ≤ 64
  pub apart : AreApart d.nodes
  pub nodes : All (NodeObeys kind levels system) d.nodes
  pub edges : All (EdgeObeys kind system d.nodes) d.edges

abbrev pub DiagramsObey : Type 0
DiagramsObey =
    (kind : DiagramKind) (levels : ℕ) (names : Names) (system : System) (s : Stream) (d : PlainDiagram) (rest : Stream)
    → diagram_of kind levels names system s ≡ Ok (d, rest) → Obeys kind levels system d

-- a rank speaks of these variables, with numbers of at most 2^30
abbrev pub RankOver : List Variable → Option Linear → Type 0
RankOver vs None = ⊤
RankOver vs (Some f) = LinearFits vs (suc (2 ^ 30)) f

pub record NodeOver (vs : List Variable) (locations : ℕ) (n : PlainDrawnNode) : Type 0 where
  pub form : FormulaOver vs locations n.form
  pub rank : RankOver vs n.rank

pub record DiagramOver (vs : List Variable) (locations : ℕ) (d : PlainDiagram) : Type 0 where
  pub terminal : FormulaOver vs locations d.terminal
  pub nodes : All (NodeOver vs locations) d.nodes

-- A diagram that is read with such names speaks of no others.
abbrev pub DiagramsAreOver : Type 0
DiagramsAreOver =
    (vs : List Variable) (locations : ℕ) (kind : DiagramKind) (levels : ℕ) (names : Names) (system : System) → NamesOver vs locations (names_of names)
    → (s : Stream) (d : PlainDiagram) (rest : Stream) → diagram_of kind levels names system s ≡ Ok (d, rest) → DiagramOver vs locations d

-- The nodes of a wait diagram that is read are levels of a goal with so many levels, the lowest being 0.
abbrev pub WaitDiagramsFit : Type 0
WaitDiagramsFit =
    (levels : ℕ) (names : Names) (system : System) (s : Stream) (d : PlainDiagram) (rest : Stream) → diagram_of Wait levels names system s ≡ Ok (d, rest)
    → LevelsExist (suc levels) d.nodes

-- The nodes of a chain or rank diagram that is read have just helpers and numbers above 0.
abbrev pub ResponseDiagramsFit : Type 0
ResponseDiagramsFit =
    (kind : DiagramKind) → kind ≢ Wait → (levels : ℕ) (names : Names) (system : System) (s : Stream) (d : PlainDiagram) (rest : Stream) → diagram_of kind levels names system s ≡ Ok (d, rest)
    → DrawnNodesFit system d.nodes
