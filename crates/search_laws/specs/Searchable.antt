-- What the search asks of conditions: their numbers are narrow, and their variables are below the number of variables.
use Rattle.std.specs.Prelude.{ℕ, List, [], ◌∷◌}
use Rattle.st_form.specs.Shared.{given_of, shown_of}
use Rattle.st_form.specs.declared.conditions.Condition.{Condition}
use Rattle.farkas_check.specs.Limits.{IsNarrow}
pub use Rattle.st_form.specs.Forms.{IsBelow}
use Rattle.search_laws.specs.Forms.{AllForms}

-- what the search asks of a condition over n variables
pub record IsSearchable (n : ℕ) (c : Condition) : Type 0 where
  pub given : IsNarrow (given_of c)
  pub shown : IsNarrow (shown_of c)
  pub given_below : AllForms (IsBelow n) (given_of c)
  pub shown_below : AllForms (IsBelow n) (shown_of c)

abbrev pub AreSearchable : ℕ → List Condition → Type 0
AreSearchable n [] = Unit {0}
AreSearchable n (c ∷ cs) = IsSearchable n c × AreSearchable n cs
