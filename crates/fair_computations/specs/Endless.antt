-- Rounds that follow each other endlessly along a computation.
use Rattle.std.specs.Prelude.{ℕ, suc, ◌≤◌}
use Rattle.observations.specs.Rounds.{Round, Rounds}
use Rattle.fair_computations.specs.Computations.{Computation, beginning}

-- the steps from position k to position l are a round, as it is seen of the beginning that ends at l
abbrev pub RoundAlong : {S : Type 0} → Computation S → ℕ → ℕ → Type 0
RoundAlong c k l = Round (beginning c l) k l

-- n consecutive rounds lead from position k to position l
abbrev pub RoundsAlong : {S : Type 0} → Computation S → ℕ → ℕ → ℕ → Type 0
RoundsAlong c n k l = Rounds (beginning c l) n k l

-- an endless sequence of rounds: each begins where the one before ends
pub record EndlessRounds {S : Type 0} (c : Computation S) : Type 0 where
  pub bound : ℕ → ℕ
  pub round : (n : ℕ) → RoundAlong c (bound n) (bound (suc n))

-- from position K on a round begins at each position
abbrev pub RoundsBegin : {S : Type 0} → Computation S → ℕ → Type 0
RoundsBegin c K = (k : ℕ) → K ≤ k → (l : ℕ) × RoundAlong c k l

-- it is not so that no number has the property
abbrev pub NotNone : (ℕ → Type 0) → Type 0
NotNone P = ¬ ((n : ℕ) → ¬ (P n))

-- from some position on a round begins at each position, with "it is not so that there is none" for "there is"
abbrev pub RoundsBeginAtLast : {S : Type 0} → Computation S → Type 0
RoundsBeginAtLast c = NotNone (λ K. (k : ℕ) → K ≤ k → NotNone (λ l. RoundAlong c k l))
