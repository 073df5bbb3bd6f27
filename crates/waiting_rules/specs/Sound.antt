-- The law of the rule.
use Rattle.std.specs.Prelude.{ℕ, List}
use Rattle.st_form.specs.Formula.{Formula, Situation}
use Rattle.observations.specs.Observation.{Observation}
use Rattle.transition_system.specs.Systems.{System}
use Rattle.transition_system.specs.Meaning.{IsRun}
use Rattle.temporal_goals.specs.Texts.{PlainGoal, invariant, waiting, response}
use Rattle.temporal_goals.specs.Meaning.{GoalHolds}
use Rattle.vc_generator.specs.Validity.{HoldThroughout, TrueThroughout}
use Rattle.rule_laws.proofs.WaitingSound.{waiting-sound}
use Rattle.waiting_rules.specs.Asked.{HasLevels, waiting_asks}

pub waiting_sound : (goal : PlainGoal) (levels lemmas : List Formula) (system : System) (step : ℕ) (o : Observation Situation)
    → HasLevels goal levels → IsRun system o → HoldThroughout (waiting_asks goal levels lemmas system step) o → TrueThroughout lemmas o → GoalHolds goal o
waiting_sound (invariant p) levels lemmas system step o fits run all cited = absurd fits
waiting_sound (waiting p goals) levels lemmas system step o fits run all cited = waiting-sound step system lemmas o run cited p goals levels fits.0 all
waiting_sound (response p q e) levels lemmas system step o fits run all cited = absurd fits
