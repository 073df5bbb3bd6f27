-- The law of the rule.
use Rattle.std.specs.Prelude.{ℕ, List}
use Rattle.st_form.specs.Formula.{Formula, Situation}
use Rattle.observations.specs.Observation.{Observation}
use Rattle.transition_system.specs.Systems.{System}
use Rattle.transition_system.specs.Meaning.{IsRun}
use Rattle.temporal_goals.specs.Texts.{PlainGoal, invariant, waiting, response, PlainNode}
use Rattle.temporal_goals.specs.Meaning.{GoalHolds}
use Rattle.vc_generator.specs.Validity.{HoldThroughout, TrueThroughout}
use Rattle.rule_laws.proofs.NetSound.{ranked-sound}
use Rattle.ranked_net.specs.Asked.{RankedFits, ranked_asks}

pub ranked_sound : (goal : PlainGoal) (nodes : List PlainNode) (lemmas : List Formula) (system : System) (step : ℕ) (o : Observation Situation)
    → RankedFits goal nodes system → IsRun system o → HoldThroughout (ranked_asks goal nodes lemmas system step) o → TrueThroughout lemmas o → GoalHolds goal o
ranked_sound (invariant p) nodes lemmas system step o fits run all cited = absurd fits
ranked_sound (waiting p forms) nodes lemmas system step o fits run all cited = absurd fits
ranked_sound (response p q e) nodes lemmas system step o fits run all cited = ranked-sound step system lemmas o run cited nodes fits.3 p q e all
