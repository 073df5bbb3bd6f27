-- What simplification needs: the greatest common divisor of the coefficients, division with the constant rounded down, opposites.
use Rattle.std.specs.Prelude.{ℕ, zero, suc, ◌%◌, ◌<◌, ◌^◌, Bool, true, ◌&&◌, ◌==◌, if◌then◌else◌, List, [], ◌∷◌, map, ℤ, pos, negsuc, ◌+ℤ◌, neg_ℤ, unsigned_abs, All}
use Prim.Native.Nat.{◌∣◌}
use Rattle.std.specs.Int.{int_div_euclid}
use Rattle.st_linear.specs.Linear.{Linear}

-- a number divides each coefficient
abbrev pub divides_all : ℕ → List (ℕ × ℤ) → Bool
divides_all d [] = true
divides_all d (e ∷ es) = (unsigned_abs e.1 % d == 0) && divides_all d es

-- the greatest number up to n, or 1, that divides each coefficient
unfoldable pub greatest_up_to : ℕ → List (ℕ × ℤ) → ℕ
greatest_up_to zero es = 1
greatest_up_to (suc n) es = if divides_all (suc n) es then suc n else greatest_up_to n es

-- the greatest number that divides each coefficient
unfoldable pub common_divisor : List (ℕ × ℤ) → ℕ
common_divisor [] = 1
common_divisor (e ∷ es) = greatest_up_to (unsigned_abs e.1) (e ∷ es)

-- each number divided, and rounded down
abbrev pub divided : ℕ → Linear → Linear
divided d f = record {
  constant = int_div_euclid f.constant (pos d);
  entries = map (λ e. (e.0, int_div_euclid e.1 (pos d))) f.entries;
}

-- the form that is at least 0 where f is not
abbrev pub complement : Linear → Linear
complement f = record {
  constant = neg_ℤ f.constant +ℤ negsuc 0;
  entries = map (λ e. (e.0, neg_ℤ e.1)) f.entries;
}

-- each number is below 2^99 in size
pub record IsModest (f : Linear) : Type 0 where
  pub constant : unsigned_abs f.constant < 2 ^ 99
  pub entries : All (λ e. unsigned_abs e.1 < 2 ^ 99) f.entries

-- the same as a fact
abbrev pub CommonTo : ℕ → List (ℕ × ℤ) → Type 0
CommonTo d [] = Unit {0}
CommonTo d (e ∷ es) = (d ∣ unsigned_abs e.1) × CommonTo d es

-- the form less 1, and the form times -1
abbrev pub lowered : Linear → Linear
lowered f = record { constant = f.constant +ℤ negsuc 0; entries = f.entries }

abbrev pub negated : Linear → Linear
negated f = record { constant = neg_ℤ f.constant; entries = map (λ e. (e.0, neg_ℤ e.1)) f.entries }
