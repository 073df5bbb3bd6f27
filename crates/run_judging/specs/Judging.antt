-- Where a goal first fails on a run, and the numbers and levels that tell it.
use Rattle.std.specs.Prelude.{◌≡◌, ℕ, ◌≤◌, ◌<◌, ◌⊎◌, ◌==◌, if◌then◌else◌, List, [], ◌∷◌, Bool, true, false, length, slice_get, slice_index, ℤ}
use Rattle.std.specs.declared.option.Option.{Option}
use Rattle.std.specs.declared.option.Option.TheVariants.{Some, None}
use Rattle.observations.specs.Goals.{at_least_zero}
use Rattle.run_judging.specs.Greatest.{IsOpen}

-- of the n positions of a run this is the least one from which the sentence fails, and it holds from each where there is none
abbrev pub IsFirstFailure : ℕ → (ℕ → Type 0) → Option ℕ → Type 0
IsFirstFailure n From None = (i : ℕ) → i < n → From i
IsFirstFailure n From (Some i) = (i < n) × (From i → ⊥) × ((j : ℕ) → j < i → From j)

-- the response in numbers: where the premise holds, fewer rounds than the bound allows fit between the position and the
-- next one where the target holds, wherever they begin
pub record Responds (premise target : List Bool) (bounds : List ℤ) (counts : List ℕ) (i : ℕ) : Type 0 where
  pub fewer : slice_get premise i ≡ Some true → (bound : ℤ) → slice_get bounds i ≡ Some bound
      → (k : ℕ) → i ≤ k → k < length counts → IsOpen target i k → slice_index counts k < at_least_zero bound

-- the flag of a level, of flags from the highest level down to level 0
abbrev pub is_level : List Bool → ℕ → Bool
is_level [] level = false
is_level (flag ∷ flags) level = if level == length flags then flag else is_level flags level

-- the lowest level that a position may have: 0 where its flag is set, and else the lowest one with its flag set that is at
-- least the next position's. Where there is none it is no level
pub record IsLowest (row : List Bool) (after level : ℕ) : Type 0 where
  pub begin : level ≡ 0 → (0 < length row) × (is_level row 0 ≡ true)
  pub above : 0 < level → level < length row → (is_level row level ≡ true) × (after ≤ level)
  pub lowest : (other : ℕ) → other < length row → (other ≡ 0) ⊎ (after ≤ other) → is_level row other ≡ true → level ≤ other
