-- The law of the rule.
use Rattle.std.specs.Prelude.{ℕ, List, length}
use Rattle.st_linear.specs.Linear.{Linear}
use Rattle.st_form.specs.Formula.{Formula, Situation}
use Rattle.observations.specs.Observation.{Observation}
use Rattle.transition_system.specs.Systems.{System}
use Rattle.transition_system.specs.Meaning.{IsRun}
use Rattle.temporal_goals.specs.Texts.{PlainGoal, invariant, waiting, response, PlainDiagram}
use Rattle.temporal_goals.specs.Meaning.{GoalHolds}
use Rattle.temporal_goals.specs.declared.diagrams.DiagramKind.{DiagramKind}
use Rattle.temporal_goals.specs.declared.diagrams.DiagramKind.TheVariants.{Wait, Chain, Rank}
use Rattle.vc_generator.specs.Validity.{HoldThroughout, TrueThroughout}
use Rattle.rule_laws.proofs.WaitDrawn.{wait-sound}
use Rattle.rule_laws.proofs.DrawnSound.{chain-sound, rank-sound}
use Rattle.diagram_conditions.specs.Asked.{FitsWaitDiagram, FitsResponseDiagram, FitsGoal, wait_diagram_asks, response_diagram_asks, drawn_asks}

module _ (step : ℕ) (system : System) (lemmas : List Formula) (o : Observation Situation) (run : IsRun system o) (cited : TrueThroughout lemmas o) where
  waiting-sound : (kind : DiagramKind) (p : Formula) (goals : List Formula) (d : PlainDiagram) → FitsWaitDiagram kind (length goals) d
      → HoldThroughout (wait_diagram_asks kind step system lemmas p goals d) o → GoalHolds (waiting p goals) o
  waiting-sound Wait p goals d fits all = wait-sound step system lemmas o run cited d p goals fits all
  waiting-sound Chain p goals d fits all = absurd fits
  waiting-sound Rank p goals d fits all = absurd fits

  response-sound : (kind : DiagramKind) (p q : Formula) (e : Linear) (d : PlainDiagram) → FitsResponseDiagram kind system d
      → HoldThroughout (response_diagram_asks kind step system lemmas p q e d) o → GoalHolds (response p q e) o
  response-sound Wait p q e d fits all = absurd fits
  response-sound Chain p q e d fits all = chain-sound step system lemmas o run cited d fits p q e all
  response-sound Rank p q e d fits all = rank-sound step system lemmas o run cited d fits p q e all

pub drawn_sound : (goal : PlainGoal) (d : PlainDiagram) (lemmas : List Formula) (system : System) (step : ℕ) (o : Observation Situation)
    → FitsGoal goal d system → IsRun system o → HoldThroughout (drawn_asks goal d lemmas system step) o → TrueThroughout lemmas o → GoalHolds goal o
drawn_sound (invariant p) d lemmas system step o fits run all cited = absurd fits
drawn_sound (waiting p goals) d lemmas system step o fits run all cited = waiting-sound step system lemmas o run cited d.kind p goals d fits all
drawn_sound (response p q e) d lemmas system step o fits run all cited = response-sound step system lemmas o run cited d.kind p q e d fits all
