-- Lines mixed: a sum of multiples of two lines, with the multiples of input lines that it comes from, if no number on the way is
-- past a limit. This is the one move of elimination (Fourier, 1826; Motzkin, 1936).
use Rattle.std.specs.Prelude.{ℕ, zero, suc, ◌/◌, ◌^◌, Bool, true, false, ◌==◌, if◌then◌else◌, List, [], ◌∷◌, ℤ, pos, negsuc, neg_ℤ, ◌+ℤ◌, ◌*ℤ◌, unsigned_abs, Option, option_and_then}
use Rattle.std.specs.Option.{option_map}
use Rattle.st_linear.specs.Linear.{Linear, joined, scaled_entries, number_within, entries_within}
use Rattle.st_linear.specs.Simple.{common_divisor}

-- a line on the way, and the multiples of input lines that it is the sum of
pub record Tracked : Type 0 where
  pub form : Linear
  pub equal : Bool
  pub picks : List (ℕ × ℤ)

-- x times a and y times b, added, if the products and the sum are within a limit
unfoldable pub mixed_number : ℕ → ℤ → ℤ → ℤ → ℤ → Option ℤ
mixed_number limit x a y b =
    option_and_then (λ p. option_and_then (λ q. number_within limit (p +ℤ q)) (number_within limit (b *ℤ y))) (number_within limit (a *ℤ x))

unfoldable pub mixed_entries : ℕ → ℤ → List (ℕ × ℤ) → ℤ → List (ℕ × ℤ) → Option (List (ℕ × ℤ))
mixed_entries limit x xs y ys =
    option_and_then (λ ps. option_and_then (λ qs. entries_within limit (joined ps qs)) (entries_within limit (scaled_entries y ys))) (entries_within limit (scaled_entries x xs))

-- a row or an equation: x times one line and y times another
unfoldable pub mixed : Bool → ℤ → Tracked → ℤ → Tracked → Option Tracked
mixed equal x s y t =
    option_and_then (λ c. option_and_then (λ es. option_map (λ ps. record {
      form = record { constant = c; entries = es };
      equal = equal;
      picks = ps;
    }) (mixed_entries (2 ^ 40) x s.picks y t.picks)) (mixed_entries (2 ^ 100) x s.form.entries y t.form.entries)) (mixed_number (2 ^ 100) x s.form.constant y t.form.constant)

-- the coefficient of a variable
abbrev pub part : ℕ → List (ℕ × ℤ) → ℤ
part v [] = pos 0
part v (e ∷ es) = if e.0 == v then e.1 else part v es

abbrev pub part_of : ℕ → Tracked → ℤ
part_of v t = part v t.form.entries

-- the greatest common divisor
unfoldable pub shared : ℤ → ℤ → ℕ
shared a c = common_divisor ((0, a) ∷ (1, c) ∷ [])

-- what a coefficient a is multiplied by, and what c is, to reach the least common multiple of the two
unfoldable pub first_factor : ℤ → ℤ → ℤ
first_factor a c = pos (unsigned_abs c / shared a c)

unfoldable pub second_factor : ℤ → ℤ → ℤ
second_factor a c = pos (unsigned_abs a / shared a c)

abbrev pub differ : ℤ → ℤ → Bool
differ (pos m) (pos n) = false
differ (pos m) (negsuc n) = true
differ (negsuc m) (pos n) = true
differ (negsuc m) (negsuc n) = false

-- what the equation's coefficient c is multiplied by, so that it takes away a
unfoldable pub against : ℤ → ℤ → ℤ
against a c = if differ a c then second_factor a c else neg_ℤ (second_factor a c)

abbrev pub is_up : ℤ → Bool
is_up (pos zero) = false
is_up (pos (suc n)) = true
is_up (negsuc n) = false

abbrev pub is_down : ℤ → Bool
is_down (pos n) = false
is_down (negsuc n) = true
