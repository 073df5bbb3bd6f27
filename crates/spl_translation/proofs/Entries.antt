-- A form of one variable.
use Rattle.std.proofs.Common.{◌≡◌, ℕ, ℤ, pos, IsTrue, Bool, true, false, Some, None, [], ◌∷◌, refl, arith}
use Rattle.std.specs.Prelude.{nat_lt}
use Rattle.std.proofs.lemmas.Bool.Decides.{nat_tests}
use Rattle.st_linear.specs.Linear.{Linear, of_entries, is_small, is_within, rise_from}

small_one : is_small (pos 1) ≡ true
unfolding is_within
small_one = refl

is_true : (b : Bool) → IsTrue b → b ≡ true
is_true true h = refl
is_true false h = cc

pub one_entry : (v : ℕ) (z : ℤ) → IsTrue (is_small z) → of_entries z ((v, pos 1) ∷ []) ≡ Some (record { constant = z; entries = (v, pos 1) ∷ [] })
one_entry v z h =
    let low : nat_lt v 0 ≡ false = grind (arith, nat_tests) in
    let rises : rise_from 0 ((v, pos 1) ∷ []) ≡ true = rw (low, small_one) refl in
    rw (is_true (is_small z) h, rises) refl

pub differ : (f : Linear) → None ≡ Some f → ⊥
differ f e = cc
