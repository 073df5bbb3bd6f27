-- Rounds that follow each other, taken apart, and responses along them.
use Rattle.std.proofs.Common.{◌≡◌, ℕ, zero, suc, ◌+◌, ◌-◌, ◌≤◌, ℤ, pos, negsuc, ◌+ℤ◌, ◌≤ℤ◌, Bool, arith, refl, subst}
use Rattle.std.proofs.lemmas.Int.{ints}
use Rattle.observations.specs.Observation.{Observation, state_at, last}
use Rattle.observations.specs.Rounds.{Rounds}
use Rattle.observations.specs.Goals.{HoldsBetween, at_least_zero, Response}
use Rattle.goal_laws.specs.Implied.{AtMost}

pub rises : (d e : ℤ) → d ≤ℤ e → at_least_zero d ≤ at_least_zero e
rises (pos d) (pos e) h = omega (arith, ints)
rises (pos d) (negsuc e) h = absurd (omega (arith, ints))
rises (negsuc d) e h = omega arith

-- a sum with a number that is not negative, and that number by itself
sum_rises : (d e : ℤ) (c : ℕ) → (d +ℤ pos c) ≤ℤ e → pos c ≤ℤ e → at_least_zero d + c ≤ at_least_zero e
sum_rises (pos d) (pos e) c h least = omega (arith, ints)
sum_rises (pos d) (negsuc e) c h least = absurd (omega (arith, ints))
sum_rises (negsuc d) (pos e) c h least = omega (arith, ints)
sum_rises (negsuc d) (negsuc e) c h least = absurd (omega (arith, ints))

module _ {S : Type 0} (o : Observation S) where
  pub rounds_up : (n k l : ℕ) → Rounds o n k l → k ≤ l
  rounds_up zero k l same = omega (arith, same)
  rounds_up (suc n) k l rounds = let ahead = rounds.1.ahead in let rest = rounds_up n rounds.0 l rounds.2 in omega arith

  pub rounds_within : (n k l : ℕ) → k ≤ last o → Rounds o n k l → l ≤ last o
  rounds_within zero k l h same = omega (arith, same)
  rounds_within (suc n) k l h rounds = rounds_within n rounds.0 l rounds.1.within rounds.2

  -- the first m of the rounds, and behind them the rest
  abbrev pub Split : ℕ → ℕ → ℕ → ℕ → Type 0
  Split m n k l = (j : ℕ) × Rounds o m k j × Rounds o n j l

  pub split : (m n k l : ℕ) → Rounds o (m + n) k l → Split m n k l
  split zero n k l rounds = let e : 0 + n ≡ n = omega arith in (k, refl, subst (λ z. Rounds o z k l) e rounds)
  split (suc m) n k l rounds =
      let e : suc m + n ≡ suc (m + n) = omega arith in
      let first = subst (λ z. Rounds o z k l) e rounds in
      let rest = split m n first.0 l first.2 in
      (rest.0, (first.0, first.1, rest.1), rest.2)

  pub wider : (q : S → Bool) (i j l m : ℕ) → j ≤ i → l ≤ m → HoldsBetween q o i l → HoldsBetween q o j m
  wider q i j l m low high found = (found.0, (let from = found.1 in omega arith), (let to = found.2 in omega arith), found.3)

  -- as many rounds as were asked for, or more
  pub fewer : (m n k l : ℕ) → m ≤ n → Rounds o n k l → (j : ℕ) × (j ≤ l) × Rounds o m k j
  fewer m n k l h rounds =
      let parts = split m (n - m) k l (let e : n ≡ m + (n - m) = omega arith in subst (λ z. Rounds o z k l) e rounds) in
      (parts.0, rounds_up (n - m) parts.0 l parts.2, parts.1)

  pub chain : (p q r : S → Bool) (d e : S → ℤ) (c : ℕ) → AtMost p (λ s. d s +ℤ pos c) e o → AtMost p (λ s. pos c) e o
      → Response p q d o → Response q r (λ s. pos c) o → Response p r e o
  chain p q r d e c sum least first second i within holds k l from inside rounds =
      let s = state_at o i in
      let many = sum_rises (d s) (e s) c (sum i within holds) (least i within holds) in
      let some = fewer (at_least_zero (d s) + c) (at_least_zero (e s)) k l many rounds in
      let parts = split (at_least_zero (d s)) c k some.0 some.2 in
      let found = first i within holds k parts.0 from inside parts.1 in
      let middle = rounds_within (at_least_zero (d s)) k parts.0 inside parts.1 in
      let end = second found.0 (let to = found.2 in omega arith) found.3 parts.0 some.0 found.2 middle parts.2 in
      wider r found.0 i some.0 l found.1 some.1 end
