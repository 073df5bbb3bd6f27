-- The sentences of goals as tests: whether each holds from a position.
use Rattle.std.specs.Prelude.{ℕ, zero, suc, ◌-◌, ◌<◌, List, length, Bool, true, ◌&&◌, ◌||◌, nat_lt, if◌then◌else◌, ℤ}
use Rattle.observations.specs.Observation.{Observation, state_at, last}
use Rattle.observations.specs.Goals.{level_form, at_least_zero}
use Rattle.judging_laws.specs.Searching.{some_between, each_between}
use Rattle.judging_laws.specs.Counted.{has_rounds}

-- the state formula holds in the state at the position
unfoldable pub holds_at : {S : Type 0} → (S → Bool) → Observation S → ℕ → Bool
holds_at p o i = p (state_at o i)

-- the n positions from k on have levels, the first at most top: that of level 0 holds at once, and then nothing more is
-- asked; or that of a higher level does, and the levels behind are at most this one
unfoldable pub has_levels : {S : Type 0} → Observation S → List (S → Bool) → ℕ → ℕ → ℕ → Bool
has_levels o forms zero k top = true
has_levels o forms (suc n) k top =
    level_form forms 0 (state_at o k)
    || some_between 1 (suc top) (λ level. level_form forms level (state_at o k) && has_levels o forms n (suc k) level)

-- where p holds, the formulas hold in turn from there on
unfoldable pub waits_from : {S : Type 0} → (S → Bool) → List (S → Bool) → Observation S → ℕ → Bool
waits_from p forms o i = if p (state_at o i) then has_levels o forms (suc (last o) - i) i (length forms - 1) else true

-- where p holds, q is reached by the end of as many consecutive rounds as e says there, whenever these begin
unfoldable pub responds_from : {S : Type 0} → (S → Bool) → (S → Bool) → (S → ℤ) → Observation S → ℕ → Bool
responds_from p q e o i =
    if p (state_at o i)
    then each_between i (suc (last o)) (λ k. each_between k (suc (last o)) (λ l.
    if has_rounds o (at_least_zero (e (state_at o i))) k l then some_between i (suc l) (λ m. q (state_at o m)) else true))
    else true
