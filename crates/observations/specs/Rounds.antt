-- Rounds: stretches of a finite run in which fairness is paid.
--
-- Justice and compassion speak of infinite runs (Manna and Pnueli, *Temporal Verification of Reactive Systems: Safety*,
-- section 0.4). A fair run has a position from which on rounds follow each other endlessly, and a run that has one is
-- fair: fair_computations proves both. So what holds within a number of rounds holds eventually in the books' sense.
use Rattle.std.specs.Prelude.{◌≡◌, ℕ, zero, suc, ◌≤◌, ◌<◌, ◌⊎◌}
use Rattle.observations.specs.Observation.{Observation, last, IsEnabled, IsTaken, IsJust, IsCompassionate}

-- taken at a step from one of the positions from k on and below l
abbrev pub TakenBetween : {S : Type 0} → Observation S → ℕ → ℕ → ℕ → Type 0
TakenBetween o name k l = (m : ℕ) × (k ≤ m) × (m < l) × IsTaken o name m

-- disabled in one of the states k to l
abbrev pub DisabledWithin : {S : Type 0} → Observation S → ℕ → ℕ → ℕ → Type 0
DisabledWithin o name k l = (m : ℕ) × (k ≤ m) × (m ≤ l) × ¬ (IsEnabled o name m)

-- enabled in none of the states k to l
abbrev pub NeverEnabled : {S : Type 0} → Observation S → ℕ → ℕ → ℕ → Type 0
NeverEnabled o name k l = (m : ℕ) → k ≤ m → m ≤ l → ¬ (IsEnabled o name m)

-- the steps from position k to position l are a round: at least one step, in which each just name is taken or disabled
-- once, and each compassionate name is taken or never enabled
pub record Round {S : Type 0} (o : Observation S) (k l : ℕ) : Type 0 where
  pub ahead : k < l
  pub within : l ≤ last o
  pub just : (name : ℕ) → IsJust o.fairness name → TakenBetween o name k l ⊎ DisabledWithin o name k l
  pub compassionate : (name : ℕ) → IsCompassionate o.fairness name → TakenBetween o name k l ⊎ NeverEnabled o name k l

-- n consecutive rounds from position k to position l, each begun where the one before ended
abbrev pub Rounds : {S : Type 0} → Observation S → ℕ → ℕ → ℕ → Type 0
Rounds o zero k l = k ≡ l
Rounds o (suc n) k l = (m : ℕ) × Round o k m × Rounds o n m l
