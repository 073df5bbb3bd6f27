-- Runs of any system that says which names are enabled in a state and where a step may lead, and their extensions.
use Rattle.std.specs.Prelude.{◌≡◌, ℕ, ◌≤◌, List, [], ◌∷◌, ◌++◌, slice_get, Bool, true, ⊤}
use Rattle.std.specs.declared.option.Option.TheVariants.{Some}
use Rattle.observations.specs.declared.Fairness.{Fairness}
use Rattle.observations.specs.Observation.{Moment, Observation, last}
use Rattle.observations.specs.Rounds.{Rounds}

-- each step is one that the system can make, and what is enabled behind it is what is seen there
abbrev pub FollowsBy : {S : Type 0} → (S → List Bool) → (S → ℕ → S → Type 0) → S → List (ℕ × Moment S) → Type 0
FollowsBy enabled Can s [] = ⊤
FollowsBy enabled Can s (step ∷ later) =
    Can s step.0 step.1.state × (step.1.enabled ≡ enabled step.1.state) × FollowsBy enabled Can step.1.state later

-- the observation is that of a run of the system, from whatever state it begins in
pub record IsObserved {S : Type 0} (names : List Fairness) (enabled : S → List Bool) (Can : S → ℕ → S → Type 0) (o : Observation S) : Type 0 where
  pub fairness : o.fairness ≡ names
  pub first : o.first.enabled ≡ enabled o.first.state
  pub follow : FollowsBy enabled Can o.first.state o.later

-- idling is always a step that leads back to its state, and each enabled name leads to the state that `next` gives
pub record MayGoOn {S : Type 0} (enabled : S → List Bool) (Can : S → ℕ → S → Type 0) (next : S → ℕ → S) (idle : ℕ) : Type 0 where
  pub idles : (s : S) → Can s idle s
  pub goes : (s : S) (name : ℕ) → slice_get (enabled s) name ≡ Some true → Can s name (next s name)

-- the observation with more steps at its end
abbrev pub extended : {S : Type 0} → Observation S → List (ℕ × Moment S) → Observation S
extended o extra = record { fairness = o.fairness; first = o.first; later = o.later ++ extra }

-- some extension of the run is a run whose last part is n consecutive rounds
pub record EndsInRounds {S : Type 0} (enabled : S → List Bool) (Can : S → ℕ → S → Type 0) (o : Observation S) (n : ℕ) : Type 0 where
  pub extra : List (ℕ × Moment S)
  pub observed : IsObserved o.fairness enabled Can (extended o extra)
  pub begin : ℕ
  pub behind : last o ≤ begin
  pub rounds : Rounds (extended o extra) n begin (last (extended o extra))
