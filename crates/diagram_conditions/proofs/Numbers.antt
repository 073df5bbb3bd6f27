-- A number of 32 bits is a linear form.
use Rattle.std.proofs.Common.{◌≡◌, ◌∙◌, ap, refl, arith, ℕ, ◌^◌, ◌<◌, true, Some, None, ℤ, pos}
use Rattle.std.proofs.lemmas.Bool.Decides.{nat_tests}
use Rattle.std.proofs.lemmas.Int.{to_z-of_z, fits_signed_from_abs}
use Rattle.st_linear.specs.Linear.{Linear, number, is_within, is_small, fitting}
use mir.Syntax.{w128}
use mir.Val.{to_z, of_z}

small_number : (n : ℕ) → n < 2 ^ 32 → is_small (pos n) ≡ true
unfolding is_within
small_number n below = grind (arith, nat_tests)

fitting-number : (n : ℕ) → n < 2 ^ 32 → fitting (number (pos n)) ≡ Some (number (pos n))
unfolding fitting
fitting-number n below = rw (small_number n below) refl

-- the number as 128 bits
bits : (n : ℕ) → n < 2 ^ 32 → to_z w128 (of_z w128 (pos n)) ≡ pos n
bits n below = to_z-of_z w128 (pos n) (fits_signed_from_abs w128 (pos n) (omega arith))

fitting-bits : (n : ℕ) (z : ℤ) → n < 2 ^ 32 → z ≡ pos n → fitting (number (to_z w128 (of_z w128 z))) ≡ Some (number (pos n))
fitting-bits n z below is = ap (λ y. fitting (number (to_z w128 (of_z w128 y)))) is ∙ ap (λ y. fitting (number y)) (bits n below) ∙ fitting-number n below

pub never-too-large : (n : ℕ) (z : ℤ) → n < 2 ^ 32 → z ≡ pos n → fitting (number (to_z w128 (of_z w128 z))) ≡ None → ⊥
never-too-large n z below is none = let fits = fitting-bits n z below is in cc

pub number-made : (n : ℕ) (z : ℤ) (f : Linear) → n < 2 ^ 32 → z ≡ pos n → fitting (number (to_z w128 (of_z w128 z))) ≡ Some f → f ≡ number (pos n)
number-made n z f below is made = let fits = fitting-bits n z below is in cc
