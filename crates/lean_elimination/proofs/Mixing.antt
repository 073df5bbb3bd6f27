-- A row that is made of two rows stands for the definition's line.
use Rattle.std.proofs.Common.{◌≡◌, ℕ, ◌^◌, ◌+◌, Bool, List, refl, subst, arith, ℤ, Some}
use Rattle.std.specs.Prelude.{IsTrue}
use Rattle.st_linear.specs.Linear.{is_within, are_within}
use Rattle.elimination_laws.specs.Mixing.{Tracked, mixed, mixed_number, mixed_entries}
use Rattle.row_elimination.proofs.Merges.{mixed_number-some}
use Rattle.lean_elimination.specs.Arenas.{if_mixed}
use Rattle.lean_elimination.proofs.Bounds.{IsBoundedMix}
use Rattle.lean_elimination.proofs.Narrowing.{mixed_number-more, mixed_entries-more}

pub mixed-row : (equal : Bool) (x y c k l : ℤ) (s t : Tracked) (es fs gs : List (ℕ × ℤ)) (n : ℕ) → s.form ≡ record { constant = k; entries = fs } → t.form ≡ record { constant = l; entries = gs } → mixed_number (2 ^ 62) x k y l ≡ Some c → mixed_entries (2 ^ 62) x fs y gs ≡ Some es → IsBoundedMix n x s.picks y t.picks → mixed equal x s y t ≡ Some (record { form = record { constant = c; entries = es }; equal = equal; picks = if_mixed (mixed_entries (2 ^ 40) x s.picks y t.picks) })
unfolding mixed
mixed-row equal x y c k l s t es fs gs n i j h m b =
    rw (i, j, mixed_number-more (2 ^ 62) (2 ^ 100) x k y l c (omega arith) h, mixed_entries-more (2 ^ 62) (2 ^ 100) x fs y gs es (omega arith) m, b.is) refl

pub bounded-row : (n : ℕ) (x y : ℤ) (ps qs : List (ℕ × ℤ)) → IsBoundedMix n x ps y qs → IsTrue (are_within (n + 1) (if_mixed (mixed_entries (2 ^ 40) x ps y qs)))
bounded-row n x y ps qs b = rw b.is b.within

pub constant-is : (x a y b r : ℤ) → mixed_number (2 ^ 62) x a y b ≡ Some r → IsTrue (is_within (2 ^ 62) r)
constant-is x a y b r h = let m = mixed_number-some (2 ^ 62) x a y b r h in subst (λ z. IsTrue (is_within (2 ^ 62) z)) m.is m.sum
