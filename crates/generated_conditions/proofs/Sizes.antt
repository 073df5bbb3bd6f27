-- How many atoms conditions count.
use Rattle.std.proofs.Common.{◌≡◌, sym, ℕ, ◌+◌, List, [], ◌∷◌, ◌++◌, map, length, fold, sum_by, add-zero, arith}
use Rattle.st_form.specs.Formula.{Formula, at, formulas, atoms, atoms_of}
use Rattle.transition_system.specs.Systems.{PlainMode}
use Rattle.transition_system.specs.Meaning.{enabling_of}
use Rattle.vc_generator.specs.Atoms.{atoms_in}

pub atoms-lemmas : (fs gs : List Formula) → atoms_of (formulas (fs ++ gs)) ≡ atoms_in fs + atoms_of (formulas gs)
atoms-lemmas [] gs = omega arith
atoms-lemmas (f ∷ fs) gs = let rest = atoms-lemmas fs gs in omega arith

locations : (ls : List ℕ) (f : Formula) → atoms_of (formulas (map (λ l. at l) ls ++ f ∷ [])) ≡ length ls + atoms f
locations [] f = omega arith
locations (l ∷ ls) f = let rest = locations ls f in omega arith

pub atoms-enabling : (m : PlainMode) → atoms_of (formulas (enabling_of m)) ≡ length m.at + atoms m.guard
atoms-enabling m = locations m.at m.guard

from : {A : Type 0} (f : A → ℕ) (n : ℕ) (xs : List A) → fold (λ a x. a + f x) n xs ≡ n + sum_by f xs
from f n [] = sym (add-zero n)
from f n (x ∷ xs) =
    let one = from f (n + f x) xs in
    let two = from f (0 + f x) xs in
    omega arith

pub sum_by-more : {A : Type 0} (f : A → ℕ) (x : A) (xs : List A) → sum_by f (x ∷ xs) ≡ f x + sum_by f xs
sum_by-more f x xs = let all = from f (0 + f x) xs in omega arith
