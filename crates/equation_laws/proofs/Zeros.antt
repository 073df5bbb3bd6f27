-- A linear form that is 0 in every store has no coefficient.
use Rattle.std.proofs.Common.{◌≡◌, ℕ, zero, suc, ◌+◌, ◌<◌, ◌≤◌, refl, ap, ◌∙◌, sym, arith, ℤ, pos, ◌+ℤ◌, ◌*ℤ◌}
use Rattle.std.proofs.lemmas.Int.{ints}
use Rattle.std.proofs.Math.IntN.{zero-*ℤ, *ℤ_comm}
use Rattle.elimination_laws.proofs.Heights.{delta}
use Rattle.basic_laws.proofs.Integers.{times_zero}
use Rattle.equation_laws.specs.Sums.{total}
use Rattle.equation_laws.proofs.Totals.{total-same, total-zero, total-one}

pub record IsZero (a : ℕ → ℤ) (c : ℤ) (n : ℕ) : Type 0 where
  pub constant : c ≡ pos 0
  pub coefficients : (u : ℕ) → u < n → a u ≡ pos 0

pub is_zero-from : (a : ℕ → ℤ) (c : ℤ) (n : ℕ) → ((store : ℕ → ℤ) → total (λ u. a u *ℤ store u) n 0 +ℤ c ≡ pos 0) → IsZero a c n
is_zero-from a c n h =
    let none : total (λ u. a u *ℤ pos 0) n 0 ≡ pos 0 = total-same (λ u. a u *ℤ pos 0) (λ u. pos 0) n 0 (λ u i j. times_zero (a u)) ∙ total-zero n 0 in
    let z : c ≡ pos 0 = let e = h (λ u. pos 0) in omega (arith, ints, e, none) in
    record {
      constant = z;
      coefficients = λ u l.
          let e = h (λ w. delta u w) in
          let one = total-same (λ w. a w *ℤ delta u w) (λ w. delta u w *ℤ a w) n 0 (λ w i j. *ℤ_comm (a w) (delta u w)) ∙ total-one a u n 0 (omega arith) (omega arith) in
          omega (arith, ints, e, one, z);
    }

pub is_zero-to : (a : ℕ → ℤ) (c : ℤ) (n : ℕ) (store : ℕ → ℤ) → IsZero a c n → total (λ u. a u *ℤ store u) n 0 +ℤ c ≡ pos 0
is_zero-to a c n store z =
    let none = total-same (λ u. a u *ℤ store u) (λ u. pos 0) n 0 (λ u i j. ap (λ k. k *ℤ store u) (z.coefficients u (omega arith)) ∙ zero-*ℤ (store u)) ∙ total-zero n 0 in
    omega (arith, ints, none, z.constant)
