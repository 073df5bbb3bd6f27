-- The law of the rule.
use Rattle.std.specs.Prelude.{ℕ, List, Option}
use Rattle.st_form.specs.Formula.{Formula, Situation}
use Rattle.observations.specs.Observation.{Observation}
use Rattle.transition_system.specs.Systems.{System}
use Rattle.transition_system.specs.Meaning.{IsRun}
use Rattle.temporal_goals.specs.Texts.{PlainGoal, invariant, waiting, response}
use Rattle.temporal_goals.specs.Meaning.{GoalHolds}
use Rattle.vc_generator.specs.Validity.{HoldThroughout, TrueThroughout}
use Rattle.rule_laws.proofs.InvarianceSound.{invariance-sound}
use Rattle.invariance_rules.specs.Asked.{IsInvariance, invariance_asks}

pub invariance_sound : (goal : PlainGoal) (stronger : Option Formula) (lemmas : List Formula) (system : System) (step : ℕ) (o : Observation Situation)
    → IsInvariance goal → IsRun system o → HoldThroughout (invariance_asks goal stronger lemmas system step) o → TrueThroughout lemmas o → GoalHolds goal o
invariance_sound (invariant p) stronger lemmas system step o fits run all cited = invariance-sound step system lemmas o run cited p stronger all
invariance_sound (waiting p forms) stronger lemmas system step o fits run all cited = absurd fits
invariance_sound (response p q e) stronger lemmas system step o fits run all cited = absurd fits
