-- The highest level that is left for a position: level 0 as soon as its formula holds, and before the highest level with its
-- formula that is no higher than the last.
use Rattle.std.proofs.Common.{◌≡◌, ℕ, zero, suc, ◌≤◌, ◌<◌, inl, inr, List, Bool, true, false, arith, refl, subst}
use Rattle.std.specs.Prelude.{if◌then◌else◌}
use native.Mathlib.Decide.{dec_le}
use Rattle.observations.specs.Goals.{level_form}
use Rattle.observations.proofs.Queue.{true_or_false}
use Rattle.fair_computations.specs.Computations.{Computation}

module _ {S : Type 0} (c : Computation S) (forms : List (S → Bool)) where
  abbrev pub form_at : ℕ → ℕ → Bool
  form_at level k = level_form forms level (c.state k)

  -- the highest level up to the number whose formula holds at the position; 0 where there is none
  abbrev pub highest : ℕ → ℕ → ℕ
  highest zero k = 0
  highest (suc level) k = if form_at (suc level) k then suc level else highest level k

  pub highest_below : (top k : ℕ) → highest top k ≤ top
  highest_below zero k = omega arith
  highest_below (suc level) k = elim (true_or_false (form_at (suc level) k)) [
    | inl on ↦ rw on (omega arith)
    | inr off ↦ rw off (let rest = highest_below level k in omega arith)
  ]

  pub highest_holds : (top k : ℕ) → 0 < highest top k → form_at (highest top k) k ≡ true
  highest_holds zero k up = absurd (omega arith)
  highest_holds (suc level) k up = elim (true_or_false (form_at (suc level) k)) [
    | inl on ↦ rw on on
    | inr off ↦ rw off (highest_holds level k (rw off at up))
  ]

  pub highest_most : (top k level : ℕ) → level ≤ top → 0 < level → form_at level k ≡ true → level ≤ highest top k
  highest_most zero k level low up holds = absurd (omega arith)
  highest_most (suc top) k level low up holds = elim (true_or_false (form_at (suc top) k)) [
    | inl on ↦ rw on (omega arith)
    | inr off ↦ rw off (elim (dec_le level top) [
      | yes le ↦ highest_most top k level le up holds
      | no gt ↦ (let e : level ≡ suc top = omega arith in let on : form_at (suc top) k ≡ true = subst (λ z. form_at z k ≡ true) e holds in cc)
    ])
  ]

  -- the next level, below one that is not 0
  abbrev pub lower : ℕ → ℕ → ℕ
  lower top k = if form_at 0 k then 0 else highest top k

  pub lower_below : (top k : ℕ) → lower top k ≤ top
  lower_below top k = elim (true_or_false (form_at 0 k)) [ inl on ↦ rw on (omega arith) | inr off ↦ rw off (highest_below top k) ]

  pub lower_holds : (top k : ℕ) → 0 < lower top k → (form_at 0 k ≡ false) × (lower top k ≡ highest top k)
  lower_holds top k up = elim (true_or_false (form_at 0 k)) [
    | inl on ↦ (let gone : 0 < 0 = rw on at up in absurd (omega arith))
    | inr off ↦ (off, rw off refl)
  ]

  abbrev pub step : ℕ → ℕ → ℕ
  step zero k = 0
  step (suc top) k = lower (suc top) k

  pub step_below : (top k : ℕ) → step top k ≤ top
  step_below zero k = omega arith
  step_below (suc top) k = lower_below (suc top) k

  pub step_is : (top k : ℕ) → 0 < top → step top k ≡ lower top k
  step_is zero k up = absurd (omega arith)
  step_is (suc top) k up = refl

  pub step_from : (top k : ℕ) → 0 < step top k → 0 < top
  step_from zero k up = up
  step_from (suc top) k up = omega arith
