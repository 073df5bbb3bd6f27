-- An invariance holds where its conditions do.
use Rattle.std.proofs.Common.{sym, subst, arith, ℕ, zero, suc, ◌+◌, ◌≤◌, List, [], ◌∷◌, false, IsTrue, Option, Some, None, inl, inr}
use Rattle.std.proofs.lemmas.Bool.{false≢true}
use Rattle.st_form.specs.Formula.{Formula, Situation, truth, truth_value}
use Rattle.st_form.specs.declared.conditions.Premise.TheVariants.{Implies, Start, Keep}
use Rattle.observations.specs.Observation.{Observation, state_at, last}
use Rattle.observations.specs.Goals.{Invariance}
use Rattle.observations.proofs.Positions.{name_from}
use Rattle.transition_system.specs.Systems.{System}
use Rattle.transition_system.specs.Meaning.{IsRun}
use Rattle.temporal_goals.specs.Meaning.{test_of}
use Rattle.vc_generator.specs.Building.{triple_of}
use Rattle.vc_generator.specs.Validity.{HoldThroughout, TrueThroughout}
use Rattle.vc_generator.specs.Walks.{plainly, by_mode}
use Rattle.vc_generator.proofs.Leading.{triple-leads, start-true, entails-true}
use Rattle.vc_generator.proofs.Walking.{mode-holds}
use Rattle.vc_generator.proofs.Running.{step-at, begins}
use Rattle.rule_laws.specs.Invariance.{kept_always, invariance_list}

module _ (step : ℕ) (system : System) (lemmas : List Formula) (o : Observation Situation) (run : IsRun system o) (cited : TrueThroughout lemmas o) where
  -- a formula that holds at the start and is kept holds at each position
  kept-holds : (f : Formula) → HoldThroughout (kept_always step system lemmas f) o → (k : ℕ) → k ≤ last o → IsTrue (truth (state_at o k) f)
  kept-holds f all zero h = start-true (state_at o 0) system lemmas f (plainly step Start None) (all 0 (omega arith)).0 (cited 0 (omega arith)) (begins system o run)
  kept-holds f all (suc k) h =
      let before = kept-holds f all k (omega arith) in
      let taken = name_from o k (omega arith) in
      let went = step-at system o k taken.0 run taken.1 in
      let keeps = mode-holds (state_at o k) (λ n t j m. triple_of m lemmas f f (truth_value false) (by_mode step Keep None t.name j) ∷ []) system taken.0 went.place went.transition went.mode went.numbered went.placed (all k (omega arith)).1 in
      elim (triple-leads went.mode (state_at o k) lemmas f f (truth_value false) (by_mode step Keep None went.transition.name (1 + went.place)) keeps.0 (cited k (omega arith)) before went.goes) [
        | inl behind ↦ subst (λ s. IsTrue (truth s f)) (sym went.leads) behind
        | inr never ↦ absurd (false≢true never)
      ]

  -- the invariance holds where its conditions do
  pub invariance-sound : (p : Formula) (stronger : Option Formula) → HoldThroughout (invariance_list step system lemmas p stronger) o → Invariance (test_of p) o
  invariance-sound p None all k h = kept-holds p all k h
  invariance-sound p (Some f) all k h =
      entails-true (state_at o k) lemmas f p (plainly step Implies None) (all k h).0 (cited k h) (kept-holds f (λ i below. (all i below).1) k h)
