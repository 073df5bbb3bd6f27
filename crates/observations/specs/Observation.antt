-- What is seen of a finite run: its states, which names are enabled in each of them, and the name of each step.
--
-- A name is a number, the place of a transition in a fixed list. Positions count the states from 0, and the step from
-- position k leads to position k + 1. Enabled and taken transitions are those of Manna and Pnueli, *Temporal
-- Verification of Reactive Systems: Safety*, section 0.3.
use Rattle.std.specs.Prelude.{◌≡◌, ℕ, zero, suc, ◌⊎◌, List, [], ◌∷◌, length, slice_get, Bool, true}
use Rattle.std.specs.declared.option.Option.{Option}
use Rattle.std.specs.declared.option.Option.TheVariants.{Some, None}
use Rattle.observations.specs.declared.Fairness.{Fairness}
use Rattle.observations.specs.declared.Fairness.TheVariants.{Just, Compassionate}

-- a state, and for each name whether it is enabled in it
pub record Moment (S : Type 0) : Type 0 where
  pub state : S
  pub enabled : List Bool

-- the fairness of each name; what is seen at the beginning; for each step its name and what is seen behind it
pub record Observation (S : Type 0) : Type 0 where
  pub fairness : List Fairness
  pub first : Moment S
  pub later : List (ℕ × Moment S)

-- what is seen so many steps on; behind the end, what is seen at the end
abbrev pub moment_after : {S : Type 0} → Moment S → List (ℕ × Moment S) → ℕ → Moment S
moment_after now [] k = now
moment_after now (step ∷ later) zero = now
moment_after now (step ∷ later) (suc k) = moment_after step.1 later k

-- the name of the step from a position; none behind the end
abbrev pub name_at : {S : Type 0} → List (ℕ × Moment S) → ℕ → Option ℕ
name_at [] k = None
name_at (step ∷ later) zero = Some step.0
name_at (step ∷ later) (suc k) = name_at later k

abbrev pub moment_at : {S : Type 0} → Observation S → ℕ → Moment S
moment_at o k = moment_after o.first o.later k

abbrev pub state_at : {S : Type 0} → Observation S → ℕ → S
state_at o k = (moment_at o k).state

-- the last position
abbrev pub last : {S : Type 0} → Observation S → ℕ
last o = length o.later

-- the name is enabled in the state at position k
abbrev pub IsEnabled : {S : Type 0} → Observation S → ℕ → ℕ → Type 0
IsEnabled o name k = slice_get (moment_at o k).enabled name ≡ Some true

-- the step from position k has the name
abbrev pub IsTaken : {S : Type 0} → Observation S → ℕ → ℕ → Type 0
IsTaken o name k = name_at o.later k ≡ Some name

abbrev pub IsCompassionate : List Fairness → ℕ → Type 0
IsCompassionate names name = slice_get names name ≡ Some Compassionate

-- a compassionate name is just as well
abbrev pub IsJust : List Fairness → ℕ → Type 0
IsJust names name = (slice_get names name ≡ Some Just) ⊎ IsCompassionate names name
