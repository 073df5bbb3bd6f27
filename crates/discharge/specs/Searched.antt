-- The first condition that isn't valid by the search.
use Rattle.std.specs.Prelude.{◌≡◌, ℕ, suc, ◌<◌, Bool, true, false, List, [], ◌∷◌, length, map, slice_get, Option, Some, None}
use Rattle.std.specs.Option.{option_map}
use Rattle.st_form.specs.Shared.{given_of, shown_of}
use Rattle.st_form.specs.declared.conditions.Condition.{Condition}
use Rattle.farkas_check.specs.Problem.{Setting}
use Rattle.search_laws.specs.Moves.{decided}
use Rattle.linear_prover.specs.Verdicts.{is_valid}

-- whether the verdict on a condition is that it is valid
abbrev pub mark : Setting → Condition → Bool
mark k c = is_valid (decided k (given_of c) (shown_of c))

abbrev pub marks : Setting → List Condition → List Bool
marks k cs = map (mark k) cs

-- the first place of a false
abbrev pub first_false : List Bool → Option ℕ
first_false [] = None
first_false (true ∷ bs) = option_map suc (first_false bs)
first_false (false ∷ bs) = Some 0

-- each condition before the n-th is decided valid
abbrev pub ValidBefore : Setting → List Condition → ℕ → Type 0
ValidBefore k cs n = (i : ℕ) (c : Condition) → i < n → slice_get cs i ≡ Some c → mark k c ≡ true

-- the condition at a place isn't decided valid
pub record IsOpenAt (k : Setting) (cs : List Condition) (i : ℕ) : Type 0 where
  pub condition : Condition
  pub there : slice_get cs i ≡ Some condition
  pub left : mark k condition ≡ false

-- the first place of a condition that isn't decided valid, or none where all are
abbrev pub IsFirstOpen : Setting → List Condition → Option ℕ → Type 0
IsFirstOpen k cs None = ValidBefore k cs (length cs)
IsFirstOpen k cs (Some i) = ValidBefore k cs i × IsOpenAt k cs i
