-- A rule that fits its goal in a script is one that its crate takes.
use Rattle.std.proofs.Common.{arith, ◌≡◌, ◌≢◌, refl, ℕ, List, length}
use Rattle.transition_system.specs.Systems.{System}
use Rattle.temporal_goals.specs.Texts.{PlainGoal, invariant, waiting, response, PlainNode, PlainNestedNode, PlainDiagram, net, diagram, nested}
use Rattle.temporal_goals.specs.declared.diagrams.DiagramKind.{DiagramKind}
use Rattle.temporal_goals.specs.declared.diagrams.DiagramKind.TheVariants.{Wait, Chain, Rank}
use Rattle.rule_fits.specs.Fitting.{DrawnNodesFit, LevelsExist}
use Rattle.ranked_net.specs.Asked.{RankedFits}
use Rattle.nested_net.specs.Asked.{NestedFits}
use Rattle.diagram_conditions.specs.Asked.{FitsWaitDiagram, FitsResponseDiagram, FitsGoal, BoundCanFall, Fits}
use Rattle.rule_fits.specs.Obeying.{RuleFits}
use Rattle.script_laws.specs.Written.{GoalWritten, RuleWritten}
use Rattle.obligations.proofs.Falling.{can-fall, nodes-fall, nested-fall, ranks-fall}

module _ (system : System) where
  pub net-fits : (goal : PlainGoal) (ns : List PlainNode) → RuleFits system goal (net ns) → GoalWritten system goal → RuleWritten system (net ns) → RankedFits goal ns system
  net-fits (invariant p) ns fits small written = absurd fits
  net-fits (waiting p qs) ns fits small written = absurd fits
  net-fits (response p q e) ns fits small written =
      let few = fits.0 in
      (can-fall system e small.2, omega arith, nodes-fall system ns written, fits.1)

  pub nested-fits : (goal : PlainGoal) (ns : List PlainNestedNode) → RuleFits system goal (nested ns) → GoalWritten system goal → RuleWritten system (nested ns) → NestedFits goal ns system
  nested-fits (invariant p) ns fits small written = absurd fits
  nested-fits (waiting p qs) ns fits small written = absurd fits
  nested-fits (response p q e) ns fits small written =
      let few = fits.0 in
      (can-fall system e small.2, omega arith, nested-fall system ns written, fits.1)

  waiting-drawn : (kind : DiagramKind) (count : ℕ) (d : PlainDiagram) → kind ≡ Wait → LevelsExist count d.nodes → FitsWaitDiagram kind count d
  waiting-drawn Wait count d is exist = exist
  waiting-drawn Chain count d is exist = cc
  waiting-drawn Rank count d is exist = cc

  response-drawn : (kind : DiagramKind) (d : PlainDiagram) → kind ≢ Wait → DrawnNodesFit system d.nodes → FitsResponseDiagram kind system d
  response-drawn Wait d other fit = absurd (other refl)
  response-drawn Chain d other fit = fit
  response-drawn Rank d other fit = fit

  goal-drawn : (goal : PlainGoal) (d : PlainDiagram) → RuleFits system goal (diagram d) → FitsGoal goal d system
  goal-drawn (invariant p) d fits = absurd fits
  goal-drawn (waiting p qs) d fits = waiting-drawn d.kind (length qs) d fits.0 fits.1
  goal-drawn (response p q e) d fits = response-drawn d.kind d fits.0 fits.1

  bound-falls : (goal : PlainGoal) → GoalWritten system goal → BoundCanFall goal
  bound-falls (invariant p) written = tt
  bound-falls (waiting p qs) written = tt
  bound-falls (response p q e) written = can-fall system e written.2

  pub diagram-fits : (goal : PlainGoal) (d : PlainDiagram) → RuleFits system goal (diagram d) → GoalWritten system goal → RuleWritten system (diagram d) → Fits goal d system
  diagram-fits goal d fits small written = record {
    goal_fits = goal-drawn goal d fits;
    bound = bound-falls goal small;
    ranks = ranks-fall system d.nodes written.nodes;
  }
