-- Marks of conditions that are decided valid, and the verdict on one that isn't.
use Rattle.std.specs.Prelude.{◌≡◌, ℕ, Bool, true, List, length, slice_get, Option, Some, None, IfSome}
use Rattle.std.specs.Option.{option_map}
use Rattle.st_form.specs.declared.conditions.Condition.{Condition}
use Rattle.farkas_check.specs.Problem.{Setting}
use Rattle.discharge.specs.declared.marks.Undecided.{Undecided}
use Rattle.discharge.specs.declared.marks.Findings.{Findings}
use Rattle.discharge.specs.Searched.{mark, ValidBefore, IsOpenAt, IsFirstOpen}
use Rattle.discharge.specs.Verdicts.{IsAnswer}

-- each condition has a mark, and is decided valid where the mark is true; where it is false nothing is said
pub record AreMarks (k : Setting) (cs : List Condition) (found : List Bool) : Type 0 where
  pub each : length found ≡ length cs
  pub valid : (i : ℕ) (c : Condition) → slice_get cs i ≡ Some c → slice_get found i ≡ Some true → mark k c ≡ true

-- the condition at its place isn't decided valid, and the verdict is the answer to it
pub record IsUndecided (k : Setting) (cs : List Condition) (u : Undecided) : Type 0 where
  pub at : IsOpenAt k cs u.place
  pub answer : IsAnswer k at.condition u.verdict

-- what workers have found is so of these conditions
pub record AreFindings (k : Setting) (cs : List Condition) (found : Findings) : Type 0 where
  pub marks : AreMarks k cs found.valid.items
  pub undecided : IfSome found.undecided (IsUndecided k cs)

-- the answer to the condition at a place, unless it is decided valid
abbrev pub IsUndecidedAt : Setting → List Condition → ℕ → Option Undecided → Type 0
IsUndecidedAt k cs i None = (c : Condition) → slice_get cs i ≡ Some c → mark k c ≡ true
IsUndecidedAt k cs i (Some u) = (u.place ≡ i) × IsUndecided k cs u

-- the first condition before the n-th that isn't decided valid, with the answer to it, or none where all before the n-th are
abbrev pub IsUndecidedBelow : Setting → List Condition → ℕ → Option Undecided → Type 0
IsUndecidedBelow k cs n None = ValidBefore k cs n
IsUndecidedBelow k cs n (Some u) = ValidBefore k cs u.place × IsUndecided k cs u

-- the place of one that isn't valid
abbrev pub place_of : Undecided → ℕ
place_of u = u.place

-- the first condition that isn't decided valid, with the answer to it, or none where all are
abbrev pub IsFirstUndecided : Setting → List Condition → Option Undecided → Type 0
IsFirstUndecided k cs o = IsFirstOpen k cs (option_map place_of o) × IfSome o (IsUndecided k cs)
