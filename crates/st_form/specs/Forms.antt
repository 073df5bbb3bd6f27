-- What is so of each row and each equation of a formula, and how many variables they reach to.
use Rattle.std.specs.Prelude.{ℕ, suc, max, List, [], ◌∷◌, ℤ}
use Rattle.st_linear.specs.Linear.{Linear, AreEntries, AllBelow}
use Rattle.st_form.specs.Formula.{Formula, Formulas, truth_value, row, equal, bool_var, at, negation, every, some, none, more}

abbrev mutual
  -- each row and each equation is so
  pub AllForms : (Linear → Type 0) → Formula → Type 0
  AllForms Q (truth_value b) = Unit {0}
  AllForms Q (row f) = Q f
  AllForms Q (equal f) = Q f
  AllForms Q (bool_var v) = Unit {0}
  AllForms Q (at l) = Unit {0}
  AllForms Q (negation f) = AllForms Q f
  AllForms Q (every fs) = AllFormsOf Q fs
  AllForms Q (some fs) = AllFormsOf Q fs

  pub AllFormsOf : (Linear → Type 0) → Formulas → Type 0
  AllFormsOf Q none = Unit {0}
  AllFormsOf Q (more f fs) = AllForms Q f × AllFormsOf Q fs

-- variables rise, and no coefficient is 0
abbrev pub HasEntries : Linear → Type 0
HasEntries f = AreEntries f.entries

-- each variable of a form is below n
abbrev pub IsBelow : ℕ → Linear → Type 0
IsBelow n f = AllBelow n f.entries

-- one more than the greatest variable, or 0 where there is none
abbrev pub entries_width : List (ℕ × ℤ) → ℕ
entries_width [] = 0
entries_width (e ∷ es) = max (suc e.0) (entries_width es)

abbrev mutual
  pub width : Formula → ℕ
  width (truth_value b) = 0
  width (row f) = entries_width f.entries
  width (equal f) = entries_width f.entries
  width (bool_var v) = 0
  width (at l) = 0
  width (negation f) = width f
  width (every fs) = width_of fs
  width (some fs) = width_of fs

  pub width_of : Formulas → ℕ
  width_of none = 0
  width_of (more f fs) = max (width f) (width_of fs)
