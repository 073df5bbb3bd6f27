-- What a diagram that fits its goal asks is the list of its step.
use Rattle.std.proofs.Common.{◌≡◌, ◌≢◌, refl, ℕ, List}
use Rattle.st_linear.specs.Linear.{Linear}
use Rattle.st_form.specs.Formula.{Formula}
use Rattle.transition_system.specs.Systems.{System}
use Rattle.temporal_goals.specs.Texts.{PlainGoal, invariant, waiting, response, PlainDiagram, diagram}
use Rattle.temporal_goals.specs.declared.diagrams.DiagramKind.{DiagramKind}
use Rattle.temporal_goals.specs.declared.diagrams.DiagramKind.TheVariants.{Wait, Chain, Rank}
use Rattle.diagram_conditions.specs.Asked.{wait_diagram_asks, response_diagram_asks, drawn_asks}
use Rattle.script_laws.specs.Script.{waiting_drawn, response_drawn, step_list}
use Rattle.rule_fits.specs.Obeying.{RuleFits}

module _ (n : ℕ) (system : System) (lemmas : List Formula) where
  waiting-asks : (kind : DiagramKind) (p : Formula) (qs : List Formula) (d : PlainDiagram) → kind ≡ Wait → wait_diagram_asks kind n system lemmas p qs d ≡ waiting_drawn kind n system lemmas p qs d
  waiting-asks Wait p qs d is = refl
  waiting-asks Chain p qs d is = cc
  waiting-asks Rank p qs d is = cc

  response-asks : (kind : DiagramKind) (p q : Formula) (e : Linear) (d : PlainDiagram) → kind ≢ Wait → response_diagram_asks kind n system lemmas p q e d ≡ response_drawn kind n system lemmas p q e d
  response-asks Wait p q e d other = absurd (other refl)
  response-asks Chain p q e d other = refl
  response-asks Rank p q e d other = refl

  pub diagram-asks : (goal : PlainGoal) (d : PlainDiagram) → RuleFits system goal (diagram d) → drawn_asks goal d lemmas system n ≡ step_list n system lemmas goal (diagram d)
  diagram-asks (invariant p) d fits = absurd fits
  diagram-asks (waiting p qs) d fits = waiting-asks d.kind p qs d fits.0
  diagram-asks (response p q e) d fits = response-asks d.kind p q e d fits.0
