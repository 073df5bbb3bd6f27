-- What is known at each position of a run of a system.
use Rattle.std.proofs.Common.{◌≡◌, ap, sym, subst, refl, ℕ, zero, suc, List, [], ◌∷◌, Some, IsTrue}
use Rattle.st_form.specs.Formula.{Situation, truth}
use Rattle.observations.specs.Observation.{Observation, Moment, moment_at, moment_after, name_at, state_at, IsTaken}
use Rattle.observations.specs.Extension.{FollowsBy}
use Rattle.transition_system.specs.Systems.{System}
use Rattle.transition_system.specs.Meaning.{Goes, IsRun, enabled_in}

moment-zero : {S : Type 0} (now : Moment S) (later : List (ℕ × Moment S)) → moment_after now later 0 ≡ now
moment-zero now [] = refl
moment-zero now (x ∷ later) = refl

module _ (system : System) where
  step-from : (first : Moment Situation) (later : List (ℕ × Moment Situation)) (k name : ℕ) → FollowsBy (enabled_in system) (Goes system) first.state later → name_at later k ≡ Some name
      → Goes system (moment_after first later k).state name (moment_after first later (suc k)).state
  step-from first [] k name follow named = cc
  step-from first (x ∷ later) zero name follow named =
      let same : x.0 ≡ name = cc in
      subst (λ z. Goes system first.state name z.state) (sym (moment-zero x.1 later)) (subst (λ z. Goes system first.state z x.1.state) same follow.0)
  step-from first (x ∷ later) (suc k) name follow named = step-from x.1 later k name follow.2 named

  -- the step from a position
  pub step-at : (o : Observation Situation) (k name : ℕ) → IsRun system o → IsTaken o name k → Goes system (state_at o k) name (state_at o (suc k))
  step-at o k name run taken = step-from o.first o.later k name run.observed.follow taken

  enabled-from : (first : Moment Situation) (later : List (ℕ × Moment Situation)) (k : ℕ) → first.enabled ≡ enabled_in system first.state → FollowsBy (enabled_in system) (Goes system) first.state later
      → (moment_after first later k).enabled ≡ enabled_in system (moment_after first later k).state
  enabled-from first [] k is follow = is
  enabled-from first (x ∷ later) zero is follow = is
  enabled-from first (x ∷ later) (suc k) is follow = enabled-from x.1 later k follow.1 follow.2

  -- what is seen to be enabled is enabled
  pub enabled-at : (o : Observation Situation) (k : ℕ) → IsRun system o → (moment_at o k).enabled ≡ enabled_in system (state_at o k)
  enabled-at o k run = enabled-from o.first o.later k run.observed.first run.observed.follow

  first-state : (o : Observation Situation) → state_at o 0 ≡ o.first.state
  first-state o = ap (λ m. m.state) (moment-zero o.first o.later)

  pub begins : (o : Observation Situation) → IsRun system o → IsTrue (truth (state_at o 0) system.initial)
  begins o run = subst (λ s. IsTrue (truth s system.initial)) (sym (first-state o)) run.initial
