-- Fair computations: justice and compassion as the books ask for them, in three readings of "there is".
--
-- Justice for a name: again and again it is taken or disabled. Compassion: if it is enabled again and again, it is taken
-- again and again (Manna and Pnueli, *Temporal Verification of Reactive Systems: Safety*, section 0.4). By classical logic
-- the three readings below are one. Here no case is taken for granted, and so each theorem says which it needs or gives.
use Rattle.std.specs.Prelude.{◌≡◌, ℕ, ◌≤◌, ◌⊎◌, Bool, true, false}
use Rattle.observations.specs.Observation.{IsJust, IsCompassionate}
use Rattle.fair_computations.specs.Computations.{Computation, EnabledAt, TakenAt}

-- at or behind each position there is one with the property
abbrev pub AgainAndAgain : (ℕ → Type 0) → Type 0
AgainAndAgain P = (k : ℕ) → (m : ℕ) × (k ≤ m) × P m

-- from position k on each one has the property
abbrev pub Always : (ℕ → Type 0) → ℕ → Type 0
Always P k = (m : ℕ) → k ≤ m → P m

-- from some position on each one has the property
abbrev pub FromSomeOn : (ℕ → Type 0) → Type 0
FromSomeOn P = (k : ℕ) × Always P k

-- it is not so that from position k on none has the property: what "eventually" is in temporal logic
abbrev pub Eventually : (ℕ → Type 0) → ℕ → Type 0
Eventually P k = ¬ (Always (λ m. ¬ (P m)) k)

-- always again, in this sense
abbrev pub AlwaysEventually : (ℕ → Type 0) → Type 0
AlwaysEventually P = (k : ℕ) → Eventually P k

-- justice for a name that is taken at some positions and enabled at some: again and again it is taken or disabled
abbrev pub GetsJustice : (ℕ → Type 0) → (ℕ → Type 0) → Type 0
GetsJustice Taken Enabled = AgainAndAgain (λ k. Taken k ⊎ ¬ (Enabled k))

-- compassion for it, in the books' words: if it is enabled again and again, it is taken again and again
abbrev pub GetsCompassionByTheBooks : (ℕ → Type 0) → (ℕ → Type 0) → Type 0
GetsCompassionByTheBooks Taken Enabled = AgainAndAgain Enabled → AgainAndAgain Taken

-- compassion, where it is known which of the two cases is there: it is taken again and again, or from some position on
-- it is never enabled. This is the constructive reading of "enabled again and again implies taken again and again"
abbrev pub GetsCompassion : (ℕ → Type 0) → (ℕ → Type 0) → Type 0
GetsCompassion Taken Enabled = AgainAndAgain Taken ⊎ FromSomeOn (λ k. ¬ (Enabled k))

-- justice and compassion with "eventually" for "there is": what classical logic says of them, and no more
abbrev pub GetsJusticeClassically : (ℕ → Type 0) → (ℕ → Type 0) → Type 0
GetsJusticeClassically Taken Enabled = AlwaysEventually (λ k. Taken k ⊎ ¬ (Enabled k))

abbrev pub GetsCompassionClassically : (ℕ → Type 0) → (ℕ → Type 0) → Type 0
GetsCompassionClassically Taken Enabled = AlwaysEventually Enabled → AlwaysEventually Taken

-- each name gets what is owed to it, in the books' words
pub record IsFairByTheBooks {S : Type 0} (c : Computation S) : Type 0 where
  pub just : (name : ℕ) → IsJust c.fairness name → GetsJustice (TakenAt c name) (EnabledAt c name)
  pub compassionate : (name : ℕ) → IsCompassionate c.fairness name → GetsCompassionByTheBooks (TakenAt c name) (EnabledAt c name)

-- the same, where the case of each compassionate name is known
pub record IsFair {S : Type 0} (c : Computation S) : Type 0 where
  pub just : (name : ℕ) → IsJust c.fairness name → GetsJustice (TakenAt c name) (EnabledAt c name)
  pub compassionate : (name : ℕ) → IsCompassionate c.fairness name → GetsCompassion (TakenAt c name) (EnabledAt c name)

-- the same by classical logic
pub record IsFairClassically {S : Type 0} (c : Computation S) : Type 0 where
  pub just : (name : ℕ) → IsJust c.fairness name → GetsJusticeClassically (TakenAt c name) (EnabledAt c name)
  pub compassionate : (name : ℕ) → IsCompassionate c.fairness name → GetsCompassionClassically (TakenAt c name) (EnabledAt c name)

-- it is settled of each compassionate name whether it is enabled again and again, or never from some position on
abbrev pub IsSettled : {S : Type 0} → Computation S → Type 0
IsSettled c = (name : ℕ) → IsCompassionate c.fairness name → AgainAndAgain (EnabledAt c name) ⊎ FromSomeOn (λ m. ¬ (EnabledAt c name m))

-- each test is true of some number or of none: the one case of the law of the excluded middle by which all is settled
abbrev pub SearchesEnd : Type 0
SearchesEnd = (test : ℕ → Bool) → ((n : ℕ) × (test n ≡ true)) ⊎ ((n : ℕ) → test n ≡ false)
