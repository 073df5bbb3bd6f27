-- The laws of the rules: on each run of a system, in whose states all conditions of the rule and all cited formulas hold,
-- the goal holds.
use Rattle.std.specs.Prelude.{◌≡◌, ℕ, List, Option, length}
use Rattle.st_linear.specs.Linear.{Linear}
use Rattle.st_form.specs.Formula.{Formula, Situation}
use Rattle.vc_generator.specs.Building.{Draft}
use Rattle.observations.specs.Observation.{Observation}
use Rattle.transition_system.specs.Systems.{System}
use Rattle.transition_system.specs.Meaning.{IsRun}
use Rattle.temporal_goals.specs.Texts.{PlainGoal, invariant, waiting, response, PlainNode, PlainNestedNode, PlainDiagram}
use Rattle.temporal_goals.specs.Meaning.{GoalHolds}
use Rattle.vc_generator.specs.Validity.{HoldThroughout, TrueThroughout}
use Rattle.rule_laws.specs.Invariance.{invariance_list}
use Rattle.rule_laws.specs.WaitingFor.{waiting_list}
use Rattle.rule_laws.specs.RankedNet.{ranked_list}
use Rattle.rule_laws.specs.NestedNet.{nested_list}
use Rattle.rule_laws.specs.Diagrams.{wait_list, chain_list, rank_list}
use Rattle.rule_fits.specs.Fitting.{NodesFit, NestedFit, DrawnNodesFit, LevelsExist}

-- the goal holds on each run on which the conditions and the cited formulas hold throughout
abbrev pub Proves : System → List Formula → List Draft → PlainGoal → Type 0
Proves system lemmas conditions goal =
    (o : Observation Situation) → IsRun system o → TrueThroughout lemmas o → HoldThroughout conditions o → GoalHolds goal o

abbrev pub InvarianceIsSound : Type 0
InvarianceIsSound = (step : ℕ) (system : System) (lemmas : List Formula) (p : Formula) (stronger : Option Formula)
    → Proves system lemmas (invariance_list step system lemmas p stronger) (invariant p)

abbrev pub WaitingForIsSound : Type 0
WaitingForIsSound = (step : ℕ) (system : System) (lemmas : List Formula) (p : Formula) (goals levels : List Formula) → length levels ≡ length goals
    → Proves system lemmas (waiting_list step system lemmas p goals levels) (waiting p goals)

abbrev pub RankedNetIsSound : Type 0
RankedNetIsSound = (step : ℕ) (system : System) (lemmas : List Formula) (p q : Formula) (e : Linear) (nodes : List PlainNode) → NodesFit system nodes
    → Proves system lemmas (ranked_list step system lemmas p q e nodes) (response p q e)

abbrev pub NestedNetIsSound : Type 0
NestedNetIsSound = (step : ℕ) (system : System) (lemmas : List Formula) (p q : Formula) (e : Linear) (nodes : List PlainNestedNode) → NestedFit system nodes
    → Proves system lemmas (nested_list step system lemmas p q e nodes) (response p q e)

abbrev pub WaitDiagramIsSound : Type 0
WaitDiagramIsSound = (step : ℕ) (system : System) (lemmas : List Formula) (p : Formula) (goals : List Formula) (d : PlainDiagram) → LevelsExist (length goals) d.nodes
    → Proves system lemmas (wait_list step system lemmas p goals d) (waiting p goals)

abbrev pub ChainDiagramIsSound : Type 0
ChainDiagramIsSound = (step : ℕ) (system : System) (lemmas : List Formula) (p q : Formula) (e : Linear) (d : PlainDiagram) → DrawnNodesFit system d.nodes
    → Proves system lemmas (chain_list step system lemmas p q e d) (response p q e)

abbrev pub RankDiagramIsSound : Type 0
RankDiagramIsSound = (step : ℕ) (system : System) (lemmas : List Formula) (p q : Formula) (e : Linear) (d : PlainDiagram) → DrawnNodesFit system d.nodes
    → Proves system lemmas (rank_list step system lemmas p q e d) (response p q e)
