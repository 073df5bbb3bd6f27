-- What each round brings nearer is reached in as many rounds as it is away.
use Rattle.std.proofs.Common.{ℕ, zero, suc, ◌≤◌, ◌⊎◌, inl, inr, Bool, ℤ, pos, negsuc, ◌+ℤ◌, ◌≤ℤ◌, arith}
use Rattle.std.proofs.lemmas.Int.{ints}
use Rattle.observations.specs.Observation.{Observation, last}
use Rattle.observations.specs.Rounds.{Round, Rounds}
use Rattle.observations.specs.Goals.{HoldsBetween, at_least_zero}

-- Left k bound says that at position k what is left to do is below the bound. One round lowers it by 1 or reaches q,
-- and it is never below 0.
module _ {S : Type 0} (q : S → Bool) (o : Observation S) (Left : ℕ → ℤ → Type 0)
    (one : (k l : ℕ) (bound : ℤ) → Round o k l → Left k (bound +ℤ pos 1) → HoldsBetween q o k l ⊎ Left l bound)
    (raise : (k : ℕ) (b c : ℤ) → b ≤ℤ c → Left k b → Left k c)
    (none_left : (l : ℕ) → l ≤ last o → Left l (pos 0) → ⊥) where
  rounds_up : (n k l : ℕ) → Rounds o n k l → k ≤ l
  rounds_up zero k l same = omega (arith, same)
  rounds_up (suc n) k l rounds = let ahead = rounds.1.ahead in let rest = rounds_up n rounds.0 l rounds.2 in omega arith

  use_up : (n k l : ℕ) → k ≤ last o → Rounds o n k l → Left k (pos n) → HoldsBetween q o k l
  use_up zero k l h same left = absurd (none_left k h left)
  use_up (suc n) k l h rounds left =
      elim (one k rounds.0 (pos n) rounds.1 (raise k (pos (suc n)) (pos n +ℤ pos 1) (omega (arith, ints)) left)) [
        | inl now ↦ (let before = now.2 in let rest = rounds_up n rounds.0 l rounds.2 in (now.0, now.1, omega arith, now.3))
        | inr less ↦ (let after = use_up n rounds.0 l rounds.1.within rounds.2 less in let ahead = rounds.1.ahead in let from = after.1 in (after.0, omega arith, after.2, after.3))
      ]

  at_most : (z : ℤ) → z ≤ℤ pos (at_least_zero z)
  at_most (pos n) = omega (arith, ints)
  at_most (negsuc n) = omega (arith, ints)

  -- from i on, where k is a later position at which what is left is below e
  pub response_at : (e : ℤ) (i k l : ℕ) → i ≤ k → k ≤ last o → Rounds o (at_least_zero e) k l → HoldsBetween q o i k ⊎ Left k e → HoldsBetween q o i l
  response_at e i k l from h rounds (inl now) = (let up = rounds_up (at_least_zero e) k l rounds in let before = now.2 in (now.0, now.1, omega arith, now.3))
  response_at e i k l from h rounds (inr left) =
      let found = use_up (at_least_zero e) k l h rounds (raise k e (pos (at_least_zero e)) (at_most e) left) in
      let after = found.1 in
      (found.0, omega arith, found.2, found.3)
