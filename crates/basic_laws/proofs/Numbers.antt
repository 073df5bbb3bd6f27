-- Natural numbers, and tests on them.
use Rattle.std.proofs.Common.{arith, false, nat_lt, suc, true, ℕ, ◌*◌, ◌+◌, ◌-◌, ◌<◌, ◌==◌, ◌≡◌, ◌≤◌}
use Rattle.std.proofs.lemmas.Bool.Decides.{nat_tests}

pub cross : (g m n a c : ℕ) → g * m ≡ a → g * n ≡ c → a * n ≡ c * m
cross g m n a c h k = rw (← h, ← k) (omega arith)

pub is_zero : (n : ℕ) → (n == 0) ≡ true → n ≡ 0
is_zero n h = grind (arith, nat_tests)

pub less : (m n : ℕ) → nat_lt m n ≡ true → m < n
less m n h = grind (arith, nat_tests)

pub not_less : (m n : ℕ) → nat_lt m n ≡ false → n ≤ m
not_less m n h = grind (arith, nat_tests)

pub one-more : (n v : ℕ) → v < n → n - v ≡ suc (n - (v + 1))
one-more n v h = omega arith

pub other-test : (n m : ℕ) → (n ≡ m → ⊥) → (n == m) ≡ false
other-test n m e = grind (arith, nat_tests)

pub same-test : (n m : ℕ) → n ≡ m → (n == m) ≡ true
same-test n m e = grind (arith, nat_tests)

pub same_test : (n : ℕ) → (n == n) ≡ true
same_test n = grind (arith, nat_tests)

pub suc_positive : (n : ℕ) → 1 ≤ suc n
suc_positive n = omega arith

pub test_same : (m n : ℕ) → (m == n) ≡ true → m ≡ n
test_same m n h = grind (arith, nat_tests)
