-- What the three kinds of goal say of an observation: invariance, nested waiting-for, and response within rounds.
--
-- Each goal is a sentence that holds from every position. Invariance and nested waiting-for are those of Manna and
-- Pnueli, *Temporal Verification of Reactive Systems: Safety*, sections 1.1 and 3.3; response is that of their
-- *Progress*, chapter 1, with a number of rounds in place of "eventually".
use Rattle.std.specs.Prelude.{◌≡◌, ℕ, suc, ◌≤◌, ◌<◌, List, [], ◌∷◌, length, Bool, false, ◌==◌, if◌then◌else◌, IsTrue, ℤ, pos, negsuc}
use Rattle.observations.specs.Observation.{Observation, state_at, last}
use Rattle.observations.specs.Rounds.{Rounds}

-- the state formula holds in the state at the position
abbrev pub HoldsAt : {S : Type 0} → (S → Bool) → Observation S → ℕ → Type 0
HoldsAt p o i = IsTrue (p (state_at o i))

-- the state formula holds at a position from i to l
abbrev pub HoldsBetween : {S : Type 0} → (S → Bool) → Observation S → ℕ → ℕ → Type 0
HoldsBetween q o i l = (m : ℕ) × (i ≤ m) × (m ≤ l) × HoldsAt q o m

-- the formula of a level, of formulas listed from the highest level down to level 0
abbrev pub level_form : {S : Type 0} → List (S → Bool) → ℕ → S → Bool
level_form [] level s = false
level_form (form ∷ forms) level s = if level == length forms then form s else level_form forms level s

-- levels for the positions from i to the end: they never rise, the first is one of the formulas', a position of a
-- level above 0 has its formula, and so has the first position of level 0. Behind that nothing is asked
pub record LevelsFrom {S : Type 0} (o : Observation S) (forms : List (S → Bool)) (i : ℕ) : Type 0 where
  pub level : ℕ → ℕ
  pub first : level i < length forms
  pub falls : (k : ℕ) → i ≤ k → k < last o → level (suc k) ≤ level k
  pub above : (k : ℕ) → i ≤ k → k ≤ last o → 0 < level k → IsTrue (level_form forms (level k) (state_at o k))
  pub begin : (k : ℕ) → i ≤ k → k ≤ last o → level k ≡ 0 → ((x : ℕ) → i ≤ x → x < k → 0 < level x) → IsTrue (level_form forms 0 (state_at o k))

-- how many rounds a bound allows: the larger of 0 and the number
abbrev pub at_least_zero : ℤ → ℕ
at_least_zero (pos n) = n
at_least_zero (negsuc n) = 0

-- where p holds, the formulas hold in turn from there on
abbrev pub WaitsFrom : {S : Type 0} → (S → Bool) → List (S → Bool) → Observation S → ℕ → Type 0
WaitsFrom p forms o i = HoldsAt p o i → LevelsFrom o forms i

-- where p holds, q is reached by the end of as many consecutive rounds as e says there, whenever these begin
abbrev pub RespondsFrom : {S : Type 0} → (S → Bool) → (S → Bool) → (S → ℤ) → Observation S → ℕ → Type 0
RespondsFrom p q e o i =
    HoldsAt p o i → (k l : ℕ) → i ≤ k → k ≤ last o → Rounds o (at_least_zero (e (state_at o i))) k l → HoldsBetween q o i l

-- the sentence holds from every position
abbrev pub Throughout : {S : Type 0} → Observation S → (ℕ → Type 0) → Type 0
Throughout o From = (i : ℕ) → i ≤ last o → From i

abbrev pub Invariance : {S : Type 0} → (S → Bool) → Observation S → Type 0
Invariance p o = Throughout o (HoldsAt p o)

abbrev pub Waiting : {S : Type 0} → (S → Bool) → List (S → Bool) → Observation S → Type 0
Waiting p forms o = Throughout o (WaitsFrom p forms o)

abbrev pub Response : {S : Type 0} → (S → Bool) → (S → Bool) → (S → ℤ) → Observation S → Type 0
Response p q e o = Throughout o (RespondsFrom p q e o)
