-- Rounds as tests, and how many of them begin at each position.
use Rattle.std.specs.Prelude.{ℕ, zero, suc, List, length, map, slice_get, Bool, true, not, ◌&&◌, ◌||◌, ◌==◌, nat_lt, nat_le, Option, Some, None}
use Rattle.std.specs.List.{range_with_len}
use Rattle.observations.specs.declared.Fairness.{Fairness}
use Rattle.observations.specs.declared.Fairness.TheVariants.{Unfair, Just, Compassionate}
use Rattle.observations.specs.Observation.{Observation, moment_at, name_at, last}
use Rattle.run_judging.specs.Paying.{is_on, is_of}
use Rattle.judging_laws.specs.Searching.{some_between, each_between, greatest}

abbrev pub is_enabled : {S : Type 0} → Observation S → ℕ → ℕ → Bool
is_enabled o name k = is_on (moment_at o k).enabled name

-- taken at a step from one of the positions from k on and below l
abbrev pub taken_between : {S : Type 0} → Observation S → ℕ → ℕ → ℕ → Bool
taken_between o name k l = some_between k l (λ m. is_of (name_at o.later m) name)

-- disabled in one of the states k to l
abbrev pub disabled_within : {S : Type 0} → Observation S → ℕ → ℕ → ℕ → Bool
disabled_within o name k l = some_between k (suc l) (λ m. not (is_enabled o name m))

-- enabled in none of the states k to l
abbrev pub never_enabled : {S : Type 0} → Observation S → ℕ → ℕ → ℕ → Bool
never_enabled o name k l = each_between k (suc l) (λ m. not (is_enabled o name m))

-- the steps from position k to position l pay the name what is owed to it
abbrev pub is_paid : {S : Type 0} → Observation S → ℕ → ℕ → ℕ → Option Fairness → Bool
is_paid o name k l None = true
is_paid o name k l (Some Unfair) = true
is_paid o name k l (Some Just) = taken_between o name k l || disabled_within o name k l
is_paid o name k l (Some Compassionate) = taken_between o name k l || never_enabled o name k l

-- the steps from position k to position l are a round: at least one step, and each name is paid
unfoldable pub is_round : {S : Type 0} → Observation S → ℕ → ℕ → Bool
is_round o k l =
    nat_lt k l && (nat_le l (last o) && each_between 0 (length o.fairness) (λ name. is_paid o name k l (slice_get o.fairness name)))

-- n consecutive rounds lead from position k to position l
unfoldable pub has_rounds : {S : Type 0} → Observation S → ℕ → ℕ → ℕ → Bool
has_rounds o zero k l = k == l
has_rounds o (suc n) k l = some_between 0 (suc (last o)) (λ m. is_round o k m && has_rounds o n m l)

-- the greatest number of consecutive rounds from position k on: each has a step, so there are no more than steps
unfoldable pub round_count : {S : Type 0} → Observation S → ℕ → ℕ
round_count o k = greatest (last o) (λ n. some_between 0 (suc (last o)) (has_rounds o n k))

-- that number for each position
unfoldable pub round_counts : {S : Type 0} → Observation S → List ℕ
round_counts o = map (round_count o) (range_with_len 0 (suc (last o)))
