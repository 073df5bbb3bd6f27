-- Numbers as they are written and their limits, against the numbers of the grammar.
use Rattle.std.proofs.Common.{◌≡◌, ◌≢◌, ℕ, zero, suc, ◌^◌, ◌<◌, ◌≤◌, Bool, true, false, ◌||◌, nat_lt, nat_le, List, [], ◌∷◌, ◌++◌, ℤ, pos, refl, arith}
use Rattle.std.proofs.lemmas.Bool.Decides.{nat_tests}
use Rattle.cert_text.specs.declared.scan.Token.{Token}
use Rattle.cert_text.specs.declared.scan.Token.TheVariants.{Number, Sign}
use Rattle.cert_text.specs.Grammar.{Int, int_value, int_tokens, is_long, is_long_entry}
use Rattle.certificate_grammar.specs.Grammar.{IsInt, plain, negated}

pub neither : (a b : Bool) → (a || b) ≡ false → (a ≡ false) × (b ≡ false)
neither false b e = (refl, e)
neither true b e = absurd cc

pub both_false : (a b : Bool) → a ≡ false → b ≡ false → (a || b) ≡ false
both_false false b e f = f
both_false true b e f = absurd cc

pub below_of : (m n : ℕ) → nat_le m n ≡ false → n < m
below_of m n e = grind (arith, nat_tests)

pub of_below : (m n : ℕ) → n < m → nat_le m n ≡ false
of_below m n e = grind (arith, nat_tests)

pub at_most_of : (m n : ℕ) → nat_lt m n ≡ false → n ≤ m
at_most_of m n e = grind (arith, nat_tests)

pub of_at_most : (m n : ℕ) → n ≤ m → nat_lt m n ≡ false
of_at_most m n e = grind (arith, nat_tests)

-- a name's number
pub short_of : (n : ℕ) → is_long n ≡ false → n < 2 ^ 32
short_of n e = let le = at_most_of 4294967295 n e in omega (arith, le)

pub of_short : (n : ℕ) → n < 2 ^ 32 → is_long n ≡ false
of_short n l = of_at_most 4294967295 n (omega (arith, l))

pub entry_of_test : (n : ℕ) → is_long_entry n ≡ false → n ≤ 2 ^ 60
entry_of_test n e = let le = at_most_of 1152921504606846976 n e in omega (arith, le)

pub test_of_entry : (n : ℕ) → n ≤ 2 ^ 60 → is_long_entry n ≡ false
test_of_entry n l = of_at_most 1152921504606846976 n (omega (arith, l))

-- a number as it is written
pub record WroteInt (limit : ℕ) (ts : List Token) (z : ℤ) : Type 0 where
  pub int : Int
  pub spelled : (k : List Token) → int_tokens int k ≡ ts ++ k
  pub means : int_value int ≡ z
  pub within : int.1 ≤ limit

pub int_written : (limit : ℕ) (ts : List Token) (z : ℤ) → IsInt limit ts z → WroteInt limit ts z
int_written limit ts z (plain {n} l) = record { int = (false, n); spelled = λ k. refl; means = refl; within = l }
int_written limit ts z (negated {n} l) = record { int = (true, n); spelled = λ k. refl; means = refl; within = l }

pub record SpelledInt (limit : ℕ) (i : Int) : Type 0 where
  pub ts : List Token
  pub spelled : (k : List Token) → int_tokens i k ≡ ts ++ k
  pub is : IsInt limit ts (int_value i)

pub int_spelled : (limit : ℕ) (i : Int) → i.1 ≤ limit → SpelledInt limit i
int_spelled limit (false, n) l = record { ts = Number n ∷ []; spelled = λ k. refl; is = plain l }
int_spelled limit (true, n) l = record { ts = Sign 45 ∷ Number n ∷ []; spelled = λ k. refl; is = negated l }

-- a coefficient isn't 0
pub not_zero : (i : Int) → 0 < i.1 → int_value i ≢ pos 0
not_zero (false, suc n) l e = cc
not_zero (true, suc n) l e = cc
not_zero (false, zero) l e = omega (arith, l)
not_zero (true, zero) l e = omega (arith, l)

pub some_size : (i : Int) → int_value i ≢ pos 0 → 0 < i.1
some_size (false, suc n) f = omega arith
some_size (true, suc n) f = omega arith
some_size (false, zero) f = absurd (f refl)
some_size (true, zero) f = absurd (f refl)
