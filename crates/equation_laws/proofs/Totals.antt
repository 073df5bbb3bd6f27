-- Sums.
use Rattle.std.proofs.Common.{◌≡◌, ◌≢◌, ℕ, zero, suc, ◌+◌, ◌<◌, ◌≤◌, Bool, true, false, List, [], ◌∷◌, ◌++◌, inl, inr, refl, ap, ◌∙◌, sym, subst, arith, ℤ, pos, neg_ℤ, ◌+ℤ◌, ◌*ℤ◌}
use Rattle.std.specs.Prelude.{◌==◌, if◌then◌else◌}
use Rattle.std.proofs.lemmas.Int.{ints}
use Rattle.std.proofs.lemmas.Bool.{cases_eq}
use Rattle.std.proofs.lemmas.Bool.Decides.{nat_tests}
use Rattle.std.proofs.Math.IntN.{zero-*ℤ, *ℤ_comm}
use Rattle.st_linear.specs.Linear.{AreEntries, AllBelow, entries_value, with_entry}
use Rattle.st_linear.proofs.Ints.{+ℤ-*ℤ, *ℤ-+ℤ, *ℤ_assoc}
use Rattle.st_linear.proofs.Joined.{value-with_entry}
use Rattle.elimination_laws.specs.Mixing.{part}
use Rattle.elimination_laws.proofs.Heights.{delta, part-slope}
use Rattle.null_laws.specs.Reduction.{Entries}
use Rattle.null_laws.specs.Bases.{Vector}
use Rattle.basic_laws.proofs.Integers.{times_one, times_zero}
use Rattle.equation_laws.specs.Sums.{total}
use Rattle.null_laws.proofs.Products.{delta_swap}

pub total-same : (f g : ℕ → ℤ) (n k : ℕ) → ((c : ℕ) → k ≤ c → c < k + n → f c ≡ g c) → total f n k ≡ total g n k
total-same f g zero k h = refl
total-same f g (suc n) k h = omega (arith, ints, h k (omega arith) (omega arith), total-same f g n (k + 1) (λ c i j. h c (omega arith) (omega arith)))

pub total-sum : (f g : ℕ → ℤ) (n k : ℕ) → total (λ c. f c +ℤ g c) n k ≡ total f n k +ℤ total g n k
total-sum f g zero k = refl
total-sum f g (suc n) k = omega (arith, ints, total-sum f g n (k + 1))

pub total-zero : (n k : ℕ) → total (λ c. pos 0) n k ≡ pos 0
total-zero zero k = refl
total-zero (suc n) k = omega (arith, ints, total-zero n (k + 1))

pub total-times : (f : ℕ → ℤ) (a : ℤ) (n k : ℕ) → total (λ c. f c *ℤ a) n k ≡ total f n k *ℤ a
total-times f a zero k = sym (zero-*ℤ a)
total-times f a (suc n) k = omega (arith, ints, total-times f a n (k + 1), +ℤ-*ℤ (f k) (total f n (k + 1)) a)

-- the order of two sums
pub total-swap : (f : ℕ → ℕ → ℤ) (m j n k : ℕ) → total (λ a. total (λ b. f a b) n k) m j ≡ total (λ b. total (λ a. f a b) m j) n k
total-swap f zero j n k = sym (total-zero n k)
total-swap f (suc m) j n k = ap (λ z. total (λ b. f j b) n k +ℤ z) (total-swap f m (j + 1) n k) ∙ sym (total-sum (λ b. f j b) (λ b. total (λ a. f a b) m (j + 1)) n k)

pub value-append : (x : Vector) (es fs : Entries) → entries_value x (es ++ fs) ≡ entries_value x es +ℤ entries_value x fs
value-append x [] fs = omega (arith, ints)
value-append x (e ∷ es) fs = omega (arith, ints, value-append x es fs)

-- columns that a coefficient of 0 or 1 chooses
before-one : (y : Vector) (v n k : ℕ) → v < k → total (λ u. delta v u *ℤ y u) n k ≡ pos 0
before-one y v zero k h = refl
before-one y v (suc n) k h = let t : (k == v) ≡ false = grind (arith, nat_tests) in rw t (omega (arith, ints, zero-*ℤ (y k), before-one y v n (k + 1) (omega arith)))

pub total-one : (y : Vector) (v n k : ℕ) → k ≤ v → v < k + n → total (λ u. delta v u *ℤ y u) n k ≡ y v
total-one y v zero k h l = absurd (omega arith)
total-one y v (suc n) k h l =
    elim (cases_eq k v) [
      | inl same ↦ let t : (k == v) ≡ true = grind (arith, nat_tests) in rw t (omega (arith, ints, times_one (y k), *ℤ_comm (pos 1) (y k), before-one y v n (k + 1) (omega arith), ap y same))
      | inr other ↦ let t : (k == v) ≡ false = grind (arith, nat_tests) in rw t (omega (arith, ints, zero-*ℤ (y k), total-one y v n (k + 1) (omega arith) (omega arith)))
    ]

-- the value of entries, column by column
slopes-total : (y : Vector) (n : ℕ) (es : Entries) → AllBelow n es → total (λ u. entries_value (delta u) es *ℤ y u) n 0 ≡ entries_value y es
slopes-total y n [] h = total-same (λ u. pos 0 *ℤ y u) (λ u. pos 0) n 0 (λ c i j. zero-*ℤ (y c)) ∙ total-zero n 0
slopes-total y n (e ∷ es) h =
    total-same (λ u. (e.1 *ℤ delta u e.0 +ℤ entries_value (delta u) es) *ℤ y u) (λ u. (delta e.0 u *ℤ y u) *ℤ e.1 +ℤ entries_value (delta u) es *ℤ y u) n 0
    (λ u i j. +ℤ-*ℤ (e.1 *ℤ delta u e.0) (entries_value (delta u) es) (y u) ∙ ap (λ z. z +ℤ entries_value (delta u) es *ℤ y u) (*ℤ_assoc e.1 (delta u e.0) (y u) ∙ *ℤ_comm e.1 (delta u e.0 *ℤ y u) ∙ ap (λ d. (d *ℤ y u) *ℤ e.1) (delta_swap u e.0)))
    ∙ total-sum (λ u. (delta e.0 u *ℤ y u) *ℤ e.1) (λ u. entries_value (delta u) es *ℤ y u) n 0
    ∙ omega (arith, ints, total-times (λ u. delta e.0 u *ℤ y u) e.1 n 0, ap (λ z. z *ℤ e.1) (total-one y e.0 n 0 (omega arith) (omega (arith, h.0))), *ℤ_comm (y e.0) e.1, slopes-total y n es h.1)

pub parts-total : (y : Vector) (n : ℕ) (es : Entries) → AreEntries es → AllBelow n es → total (λ u. part u es *ℤ y u) n 0 ≡ entries_value y es
parts-total y n es a h = total-same (λ u. part u es *ℤ y u) (λ u. entries_value (delta u) es *ℤ y u) n 0 (λ u i j. ap (λ z. z *ℤ y u) (part-slope u es a)) ∙ slopes-total y n es h
