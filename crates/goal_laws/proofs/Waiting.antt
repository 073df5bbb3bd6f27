-- A waiting-for of two formulas along a response: the first one still holds, or the second one has come.
use Rattle.std.proofs.Common.{◌≡◌, ℕ, zero, suc, ◌+◌, ◌-◌, ◌≤◌, ◌<◌, ◌⊎◌, inl, inr, [], ◌∷◌, ℤ, Bool, true, false, not, IsTrue, arith, refl, subst}
use Rattle.std.specs.Prelude.{◌&&◌, ◌||◌}
use native.Mathlib.Decide.{dec_le}
use Rattle.basic_laws.proofs.Truths.{and_both, both_true}
use Rattle.observations.specs.Observation.{Observation, state_at, last}
use Rattle.observations.specs.Goals.{level_form, LevelsFrom, HoldsAt, HoldsBetween, at_least_zero, Waiting, Response}
use Rattle.goal_laws.proofs.Chaining.{rounds_within, wider}

module _ {S : Type 0} (o : Observation S) (a b : S → Bool) (i : ℕ) (v : LevelsFrom o (a ∷ b ∷ []) i) where
  -- no level is above the first one
  low : (n : ℕ) → i + n ≤ last o → v.level (i + n) ≤ v.level i
  low zero h = let e : i ≡ i + 0 = omega arith in subst (λ z. v.level z ≤ v.level i) e (omega arith)
  low (suc n) h =
      let rest = low n (omega arith) in
      let e : suc (i + n) ≡ i + suc n = omega arith in
      let fall = subst (λ z. v.level z ≤ v.level (i + n)) e (v.falls (i + n) (omega arith) (omega arith)) in
      omega arith

  abbrev Before : ℕ → Type 0
  Before n = (x : ℕ) → i ≤ x → x < i + n → 0 < v.level x

  -- the second formula has come, or all levels are above 0
  come : (n : ℕ) → i + n ≤ suc (last o) → Before n ⊎ ((x : ℕ) × (i ≤ x) × (x < i + n) × HoldsAt b o x)
  come zero h = inl (λ x from below. absurd (omega arith))
  come (suc n) h = elim (come n (omega arith)) [
    | inr found ↦ inr (found.0, found.1, (let below = found.2 in omega arith), found.3)
    | inl before ↦ elim (dec_le (v.level (i + n)) 0) [
      | yes none ↦ inr (i + n, omega arith, omega arith, v.begin (i + n) (omega arith) (omega arith) (omega arith) before)
      | no up ↦ inl (λ x from below. elim (dec_le (i + n) x) [
        | yes at_end ↦ (let e : i + n ≡ x = omega arith in subst (λ z. 0 < v.level z) e (omega arith))
        | no earlier ↦ before x from (omega arith)
      ])
    ]
  ]

  still : (m : ℕ) → i ≤ m → m ≤ last o → 0 < v.level m → HoldsAt a o m
  still m from within up =
      let e : i + (m - i) ≡ m = omega arith in
      let below = subst (λ z. v.level z ≤ v.level i) e (low (m - i) (omega arith)) in
      let first = v.first in
      let one : v.level m ≡ 1 = omega arith in
      subst (λ z. IsTrue (level_form (a ∷ b ∷ []) z (state_at o m))) one (v.above m from within up)

  pub still_or_come : (m : ℕ) → i ≤ m → m ≤ last o → HoldsAt a o m ⊎ HoldsBetween b o i m
  still_or_come m from within = elim (come (suc m - i) (omega arith)) [
    | inl before ↦ inl (still m from within (before m from (omega arith)))
    | inr found ↦ inr (found.0, found.1, (let below = found.2 in omega arith), found.3)
  ]

module _ {S : Type 0} (o : Observation S) where
  denied : (b : Bool) → IsTrue b → IsTrue (not b) → ⊥
  denied true h k = cc
  denied false h k = cc

  pub ends : (p a b : S → Bool) (e : S → ℤ) → Waiting p (a ∷ b ∷ []) o → Response p (λ s. not (a s)) e o → Response p b e o
  ends p a b e waits responds i within holds k l from inside rounds =
      let found = responds i within holds k l from inside rounds in
      let end = rounds_within o (at_least_zero (e (state_at o i))) k l inside rounds in
      elim (still_or_come o a b i (waits i within holds) found.0 found.1 (let to = found.2 in omega arith)) [
        | inl on ↦ absurd (denied (a (state_at o found.0)) on found.3)
        | inr come ↦ wider o b i i found.0 l (omega arith) found.2 come
      ]

  left_true : (x y : Bool) → IsTrue x → IsTrue (x || y)
  left_true true y h = refl
  left_true false y h = cc

  right_true : (x y : Bool) → IsTrue y → IsTrue (x || y)
  right_true true y h = refl
  right_true false y h = h

  pub goes_along : (p q r a b : S → Bool) (e : S → ℤ) → Response p q e o → Waiting r (a ∷ b ∷ []) o → Response (λ s. p s && r s) (λ s. (q s && a s) || b s) e o
  goes_along p q r a b e responds waits i within holds k l from inside rounds =
      let s = state_at o i in
      let parts = both_true (p s) (r s) holds in
      let found = responds i within parts.0 k l from inside rounds in
      let end = rounds_within o (at_least_zero (e s)) k l inside rounds in
      let t = state_at o found.0 in
      elim (still_or_come o a b i (waits i within parts.1) found.0 found.1 (let to = found.2 in omega arith)) [
        | inl on ↦ (found.0, found.1, found.2, left_true (q t && a t) (b t) (and_both (q t) (a t) found.3 on))
        | inr come ↦ (come.0, come.1, (let to = found.2 in let before = come.2 in omega arith), right_true (q (state_at o come.0) && a (state_at o come.0)) (b (state_at o come.0)) come.3)
      ]
