-- Whole numbers: sizes, products and tests.
use Rattle.std.proofs.Common.{Bool, List, None, Some, arith, cond, false, negsuc, pos, refl, suc, true, zero, ℕ, ℤ, ◌*ℤ◌, ◌+ℤ◌, ◌+◌, ◌<◌, ◌^◌, ◌∙◌, ◌≡◌, ◌≢◌, ◌≤ℤ◌, ◌≤◌}
use Rattle.std.proofs.Math.IntN.{*ℤ_comm, zero-*ℤ}
use Rattle.std.proofs.lemmas.Int.{ints, unsigned_abs-mul}
use Rattle.std.proofs.lemmas.Nat.{mul-le}
use Rattle.std.specs.Prelude.{if◌then◌else◌, int_le, unsigned_abs}

pub above_zero : (z : ℤ) → z ≢ pos 0 → 0 < unsigned_abs z
above_zero (pos zero) h = absurd (h refl)
above_zero (pos (suc n)) h = omega arith
above_zero (negsuc n) h = omega arith

pub by_test : (b : Bool) (z r : ℤ) → cond b None (Some z) ≡ Some r → z ≡ r
by_test true z r h = absurd (cc)
by_test false z r h = cc

pub held : (b : Bool) (vs ws : List ℤ) → (if b then Some vs else None) ≡ Some ws → (b ≡ true) × (vs ≡ ws)
held true vs ws h = (refl, cc)
held false vs ws h = absurd (cc)

pub least-is : (z : ℤ) → int_le (pos 0) z ≡ true → pos 0 ≤ℤ z
least-is (pos n) h = omega (arith, ints)
least-is (negsuc n) h = absurd (cc)

pub product : (x y : ℤ) → unsigned_abs x ≤ 2 ^ 30 → unsigned_abs y ≤ 2 ^ 32 → unsigned_abs (x *ℤ y) ≤ 2 ^ 62
product x y h k =
    let e = unsigned_abs-mul x y in
    let q = mul-le (unsigned_abs x) (unsigned_abs y) (2 ^ 30) (2 ^ 32) h k in
    omega arith

pub size_not_zero : (z : ℤ) → z ≢ pos 0 → unsigned_abs z ≢ 0
size_not_zero (pos zero) h e = h refl
size_not_zero (pos (suc n)) h e = absurd (omega arith)
size_not_zero (negsuc n) h e = absurd (omega arith)

pub sum-size : (x y : ℤ) (m n : ℕ) → unsigned_abs x ≤ m → unsigned_abs y ≤ n → unsigned_abs (x +ℤ y) ≤ m + n
sum-size x y m n h k = omega (arith, ints, h, k)

pub times_one : (a : ℤ) → a *ℤ pos 1 ≡ a
times_one (pos n) = omega (arith, ints)
times_one (negsuc n) = omega (arith, ints)

pub times_zero : (a : ℤ) → a *ℤ pos 0 ≡ pos 0
times_zero a = *ℤ_comm a (pos 0) ∙ zero-*ℤ a
