-- Rounds that begin at each position make an endless sequence, and an endless sequence of rounds makes the run fair.
use Rattle.std.proofs.Common.{◌≡◌, ℕ, zero, suc, ◌+◌, ◌≤◌, ◌<◌, inl, inr, arith, refl}
use native.Mathlib.Decide.{dec_le}
use Rattle.observations.specs.Observation.{IsJust, IsCompassionate}
use Rattle.fair_computations.specs.Computations.{Computation, EnabledAt, TakenAt}
use Rattle.fair_computations.specs.Fair.{GetsJustice, IsFairByTheBooks, IsFairClassically}
use Rattle.fair_computations.specs.Endless.{RoundsAlong, EndlessRounds, RoundsBegin}
use Rattle.fair_computations.proofs.Beginnings.{Pays, PaysOften, round_pays, seen_rounds}

module _ {S : Type 0} (c : Computation S) where
  module _ (K : ℕ) (begin : RoundsBegin c K) where
    often : (n k : ℕ) → K ≤ k → (l : ℕ) × PaysOften c n k l
    often zero k high = (k, refl)
    often (suc n) k high =
        let one = begin k high in
        let pays = round_pays c one.0 k one.0 one.1 in
        let rest = often n one.0 (let a = pays.ahead in omega arith) in
        (rest.0, (one.0, pays, rest.1))

    pub many : (n k : ℕ) → K ≤ k → (l : ℕ) × RoundsAlong c n k l
    many n k high = let found = often n k high in (found.0, seen_rounds c found.0 n k found.0 (omega arith) found.1)

    abbrev Point : Type 0
    Point = (k : ℕ) × (K ≤ k)

    onward : Point → Point
    onward point = let one = begin point.0 point.1 in let pays = round_pays c one.0 point.0 one.0 one.1 in (one.0, (let a = pays.ahead in let h = point.1 in omega arith))

    abbrev point_at : ℕ → Point → Point
    point_at zero point = point
    point_at (suc n) point = onward (point_at n point)

    pub endless : (k : ℕ) → K ≤ k → (rounds : EndlessRounds c) × (rounds.bound 0 ≡ k)
    unfolding onward
    endless k high = (record { bound = λ n. (point_at n (k, high)).0; round = λ n. (begin (point_at n (k, high)).0 (point_at n (k, high)).1).1 }, refl)

  module _ (rounds : EndlessRounds c) where
    pays_at : (n : ℕ) → Pays c (rounds.bound n) (rounds.bound (suc n))
    pays_at n = round_pays c (rounds.bound (suc n)) (rounds.bound n) (rounds.bound (suc n)) (rounds.round n)

    rises : (n : ℕ) → n ≤ rounds.bound n
    rises zero = omega arith
    rises (suc n) = let rest = rises n in let pays = pays_at n in let a = pays.ahead in omega arith

    -- the round in which a position lies
    abbrev Lies : ℕ → ℕ → Type 0
    Lies m n = (i : ℕ) × (n ≤ i) × (rounds.bound i ≤ m) × (m < rounds.bound (suc i))

    lies : (fuel m n : ℕ) → m < n + fuel → rounds.bound n ≤ m → Lies m n
    lies zero m n h low = absurd (let up = rises n in omega arith)
    lies (suc fuel) m n h low = elim (dec_le (rounds.bound (suc n)) m) [
      | no less ↦ (n, omega arith, low, omega arith)
      | yes more ↦ (let rest = lies fuel m (suc n) (omega arith) more in (rest.0, (let le = rest.1 in omega arith), rest.2, rest.3))
    ]

    rounds_just : (name : ℕ) → IsJust c.fairness name → GetsJustice (TakenAt c name) (EnabledAt c name)
    rounds_just name is k =
        let up = rises k in
        let pays = pays_at k in
        elim (pays.just name is) [
          | inl t ↦ (t.0, (let from = t.1 in omega arith), inl t.3)
          | inr d ↦ (d.0, (let from = d.1 in omega arith), inr d.3)
        ]

    -- the round, not before the k-th, in which an enabled position lies is one in which the name is taken
    taken_around : (name k m : ℕ) → IsCompassionate c.fairness name → rounds.bound k ≤ m → EnabledAt c name m → (j : ℕ) × (k ≤ j) × TakenAt c name j
    taken_around name k m is from on =
        let place = lies (suc m) m k (omega arith) from in
        let pays = pays_at place.0 in
        elim (pays.compassionate name is) [
          | inl t ↦ (t.0, (let begin = t.1 in let behind = rises place.0 in let le = place.1 in omega arith), t.3)
          | inr never ↦ absurd (never m place.2 (let below = place.3 in omega arith) on)
        ]

    pub fair : IsFairByTheBooks c
    fair = record { just = rounds_just; compassionate = λ name is again k. let on = again (rounds.bound k) in taken_around name k on.0 is on.1 on.2 }

    pub fair_classically : IsFairClassically c
    fair_classically = record {
      just = λ name is k never. let found = rounds_just name is k in never found.0 found.1 found.2;
      compassionate = λ name is again k never. again (rounds.bound k) (λ m from on. let found = taken_around name k m is from on in never found.0 found.1 found.2);
    }
