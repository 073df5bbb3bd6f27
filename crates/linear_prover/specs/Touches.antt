-- Whether a literal of a formula is decided.
use Rattle.std.specs.Prelude.{Bool, true, false, ◌||◌, Option, Some, None}
use Rattle.st_form.specs.Formula.{Formula, Formulas, truth_value, row, equal, bool_var, at, negation, every, some, none, more}
use Rattle.st_form.specs.Simple.{Decided}

abbrev pub is_there : {A : Type 0} → Option A → Bool
is_there None = false
is_there (Some x) = true

abbrev mutual
  pub touches : Decided → Formula → Bool
  touches d (truth_value b) = false
  touches d (row f) = false
  touches d (equal f) = false
  touches d (bool_var v) = is_there (d.truths v)
  touches d (at l) = is_there (d.places l)
  touches d (negation f) = touches d f
  touches d (every fs) = touches_any d fs
  touches d (some fs) = touches_any d fs

  pub touches_any : Decided → Formulas → Bool
  touches_any d none = false
  touches_any d (more f fs) = touches d f || touches_any d fs
