-- The forms of a condition are as the search wants them.
use Rattle.std.proofs.Common.{ℕ}
use Rattle.st_form.specs.Formula.{Formula, Formulas, truth_value, row, equal, bool_var, at, negation, every, some, none, more}
use Rattle.search_laws.specs.Forms.{AllForms, AllFormsOf, IsProper}
use Rattle.search_laws.specs.Steady.{HasEntries}
use Rattle.search_laws.specs.Searchable.{IsBelow}

mutual
  pub proper : (n : ℕ) (f : Formula) → AllForms HasEntries f → AllForms (IsBelow n) f → AllForms (IsProper n) f
  proper n (truth_value b) h k = tt
  proper n (row f) h k = record { entries = h; below = k }
  proper n (equal f) h k = record { entries = h; below = k }
  proper n (bool_var v) h k = tt
  proper n (at l) h k = tt
  proper n (negation f) h k = proper n f h k
  proper n (every fs) h k = all-proper n fs h k
  proper n (some fs) h k = all-proper n fs h k

  all-proper : (n : ℕ) (fs : Formulas) → AllFormsOf HasEntries fs → AllFormsOf (IsBelow n) fs → AllFormsOf (IsProper n) fs
  all-proper n none h k = tt
  all-proper n (more f fs) h k = (proper n f h.0 k.0, all-proper n fs h.1 k.1)
