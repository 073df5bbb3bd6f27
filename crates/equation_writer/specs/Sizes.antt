-- How many cases a formula has, and how many atoms, from the sizes of the components' classes.
use Rattle.std.specs.Prelude.{ℕ, zero, ◌+◌, ◌*◌, Bool, ◌&&◌, nat_le, List, [], ◌∷◌, length, filter, ℤ, pos}
use Rattle.std.specs.Ordering.{int_eq}
use Rattle.equation_forms.specs.Formulas.{Terms, classes}

-- the atoms that say that control is in a class
abbrev pub class_atoms : Terms → ℤ → ℕ
class_atoms ts (pos zero) = length ts
class_atoms ts k = length (filter (λ t. int_eq t.1 k) ts)

abbrev pub classes_atoms : Terms → List ℤ → ℕ
classes_atoms ts [] = 0
classes_atoms ts (k ∷ ks) = class_atoms ts k + classes_atoms ts ks

abbrev pub case_count : List Terms → ℕ
case_count [] = 1
case_count (ts ∷ gs) = length (classes ts) * case_count gs

-- one atom for each case's equation
abbrev pub atom_count : List Terms → ℕ
atom_count [] = 1
atom_count (ts ∷ gs) = case_count gs * classes_atoms ts (classes ts) + length (classes ts) * atom_count gs

-- at most 64 cases and 1,024 atoms
abbrev pub are_few : List Terms → Bool
are_few gs = nat_le (case_count gs) 64 && nat_le (atom_count gs) 1024
