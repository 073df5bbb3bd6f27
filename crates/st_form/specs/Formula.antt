-- Formulas, and when they are true.
use Rattle.std.specs.Prelude.{ℕ, ◌+◌, Bool, true, false, not, ◌&&◌, ◌||◌, ℤ, pos, int_le, List, [], ◌∷◌, length}
use Rattle.st_linear.specs.Linear.{Linear, value}

-- a formula as plain data
mutual
  pub data Formula : Type 0 where
    truth_value : Bool → Formula
    row : Linear → Formula
    equal : Linear → Formula
    bool_var : ℕ → Formula
    at : ℕ → Formula
    negation : Formula → Formula
    every : Formulas → Formula
    some : Formulas → Formula

  pub data Formulas : Type 0 where
    none : Formulas
    more : Formula → Formulas → Formulas

abbrev pub formulas : List Formula → Formulas
formulas [] = none
formulas (f ∷ fs) = more f (formulas fs)

-- what a formula speaks of: whole numbers, truth values, and the locations where control is
pub record Situation : Type 0 where
  pub numbers : ℕ → ℤ
  pub truths : ℕ → Bool
  pub located : ℕ → Bool

abbrev pub is_zero : ℤ → Bool
is_zero z = int_le z (pos 0) && int_le (pos 0) z

abbrev mutual
  -- whether a formula is true
  pub truth : Situation → Formula → Bool
  truth s (truth_value b) = b
  truth s (row f) = int_le (pos 0) (value s.numbers f)
  truth s (equal f) = is_zero (value s.numbers f)
  truth s (bool_var v) = s.truths v
  truth s (at l) = s.located l
  truth s (negation f) = not (truth s f)
  truth s (every fs) = every_truth s fs
  truth s (some fs) = some_truth s fs

  pub every_truth : Situation → Formulas → Bool
  every_truth s none = true
  every_truth s (more f fs) = truth s f && every_truth s fs

  pub some_truth : Situation → Formulas → Bool
  some_truth s none = false
  some_truth s (more f fs) = truth s f || some_truth s fs

abbrev mutual
  -- how many leaves but truth values a formula has
  pub atoms : Formula → ℕ
  atoms (truth_value b) = 0
  atoms (row f) = 1
  atoms (equal f) = 1
  atoms (bool_var v) = 1
  atoms (at l) = 1
  atoms (negation f) = atoms f
  atoms (every fs) = atoms_of fs
  atoms (some fs) = atoms_of fs

  pub atoms_of : Formulas → ℕ
  atoms_of none = 0
  atoms_of (more f fs) = atoms f + atoms_of fs

abbrev mutual
  -- a formula's atoms and its forms' entries
  pub weight : Formula → ℕ
  weight (truth_value b) = 0
  weight (row f) = 1 + length f.entries
  weight (equal f) = 1 + length f.entries
  weight (bool_var v) = 1
  weight (at l) = 1
  weight (negation f) = weight f
  weight (every fs) = weight_of fs
  weight (some fs) = weight_of fs

  pub weight_of : Formulas → ℕ
  weight_of none = 0
  weight_of (more f fs) = weight f + weight_of fs
