-- Each variable is below n exactly where the width is at most n.
use Rattle.std.proofs.Common.{arith, ℕ, ◌≤◌, List, [], ◌∷◌, ℤ, max}
use Rattle.st_linear.specs.Linear.{AllBelow}
use Rattle.st_form.specs.Formula.{Formula, Formulas, truth_value, row, equal, bool_var, at, negation, every, some, none, more}
use Rattle.st_form.specs.Forms.{AllForms, AllFormsOf, IsBelow, entries_width, width, width_of}

entries-below : (n : ℕ) (es : List (ℕ × ℤ)) → entries_width es ≤ n → AllBelow n es
entries-below n [] le = tt
entries-below n (e ∷ es) le = (omega (arith, le), entries-below n es (omega (arith, le)))

entries-wide : (n : ℕ) (es : List (ℕ × ℤ)) → AllBelow n es → entries_width es ≤ n
entries-wide n [] below = omega (arith)
entries-wide n (e ∷ es) below = omega (arith, below.0, entries-wide n es below.1)

mutual
  pub width-below : (n : ℕ) (f : Formula) → width f ≤ n → AllForms (IsBelow n) f
  width-below n (truth_value b) le = tt
  width-below n (row f) le = entries-below n f.entries le
  width-below n (equal f) le = entries-below n f.entries le
  width-below n (bool_var v) le = tt
  width-below n (at l) le = tt
  width-below n (negation f) le = width-below n f le
  width-below n (every fs) le = widths-below n fs le
  width-below n (some fs) le = widths-below n fs le

  pub widths-below : (n : ℕ) (fs : Formulas) → width_of fs ≤ n → AllFormsOf (IsBelow n) fs
  widths-below n none le = tt
  widths-below n (more f fs) le = (width-below n f (omega (arith, le)), widths-below n fs (omega (arith, le)))

mutual
  pub below-width : (n : ℕ) (f : Formula) → AllForms (IsBelow n) f → width f ≤ n
  below-width n (truth_value b) below = omega (arith)
  below-width n (row f) below = entries-wide n f.entries below
  below-width n (equal f) below = entries-wide n f.entries below
  below-width n (bool_var v) below = omega (arith)
  below-width n (at l) below = omega (arith)
  below-width n (negation f) below = below-width n f below
  below-width n (every fs) below = below-widths n fs below
  below-width n (some fs) below = below-widths n fs below

  pub below-widths : (n : ℕ) (fs : Formulas) → AllFormsOf (IsBelow n) fs → width_of fs ≤ n
  below-widths n none below = omega (arith)
  below-widths n (more f fs) below = omega (arith, below-width n f below.0, below-widths n fs below.1)
