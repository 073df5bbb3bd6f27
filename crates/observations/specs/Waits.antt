-- Nested waiting-for by cases: the form in which rules prove it.
use Rattle.std.specs.Prelude.{ℕ, suc, ◌<◌, List, [], ◌∷◌, Bool}
use Rattle.observations.specs.Observation.{Observation, last}
use Rattle.observations.specs.Goals.{HoldsAt}

-- from position k on each of the formulas in turn holds up to the beginning of the next one: the last one holds where
-- it begins, one before it may be kept for a further position or passed over, and the run may end before
pub data Waits {S : Type 0} (o : Observation S) : List (S → Bool) → ℕ → Type 0 where
  Ended : {forms : List (S → Bool)} {k : ℕ} → last o < k → Waits o forms k
  Reached : {form : S → Bool} {k : ℕ} → HoldsAt form o k → Waits o (form ∷ []) k
  Kept : {form next : S → Bool} {forms : List (S → Bool)} {k : ℕ} → HoldsAt form o k → Waits o (form ∷ next ∷ forms) (suc k) → Waits o (form ∷ next ∷ forms) k
  Passed : {form next : S → Bool} {forms : List (S → Bool)} {k : ℕ} → Waits o (next ∷ forms) k → Waits o (form ∷ next ∷ forms) k
