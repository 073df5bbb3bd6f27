-- Which group is refused for its atoms: the first path on which a guard or a truth value gets too many.
use Rattle.std.specs.Prelude.{◌≡◌, ◌↔◌, ℕ, ◌≤◌, ◌<◌, Bool, List, [], ◌∷◌, ◌++◌, Some, Ok, Err}
use Rattle.st_form.specs.Formula.{Formula, formulas, atoms, atoms_of}
use Rattle.st_form.specs.Exchange.{Exchange, exchanged}
use Rattle.st_program.specs.Tree.{Term, truth, Pieces}
use Rattle.st_program.specs.Groups.{Link, tested, given, paths_along, signed}
use Rattle.st_tokens.specs.declared.limit.LimitKind.TheVariants as limits
use Rattle.expression_typer.specs.declared.fault.TypeFault.TheVariants as faults
use Rattle.spl_typer.specs.Groups.{Composition, nothing, terms_on, path_on, all_small, grouped}
use Rattle.group_limits.specs.Choices.{ways_along}
use Rattle.group_limits.specs.Weights.{AreComposed}

-- a right side that is a truth value of more than 2,048 atoms, once it is composed; those before it are within the limits
pub record IsHeavySide (place : ℕ) (change : Exchange) (xs : List (ℕ × Term)) : Type 0 where
  pub front : List (ℕ × Term)
  pub variable : ℕ
  pub value : Formula
  pub rest : List (ℕ × Term)
  pub cut : xs ≡ front ++ (variable, truth value) ∷ rest
  pub before : List (ℕ × Term)
  pub fine : terms_on place change [] front ≡ Ok before
  pub composed : Formula
  pub is : exchanged change value ≡ Some composed
  pub many : 2048 < atoms composed

-- a guard of more than 2,048 atoms, once the test is composed
pub record IsHeavyGuard (c : Composition) (test : Formula) (wanted : Bool) : Type 0 where
  pub composed : Formula
  pub is : exchanged c.change test ≡ Some composed
  pub many : 2048 < atoms_of (formulas (c.tests ++ signed wanted composed ∷ []))

abbrev pub IsHeavyLink : ℕ → Composition → Link → Type 0
IsHeavyLink place c (tested f b) = IsHeavyGuard c f b
IsHeavyLink place c (given xs) = IsHeavySide place c.change xs

-- a path with such a test or assignment, before which all is within the limits
pub record IsHeavyPath (place : ℕ) (path : List Link) : Type 0 where
  pub front : List Link
  pub link : Link
  pub rest : List Link
  pub cut : path ≡ front ++ link ∷ rest
  pub before : Composition
  pub fine : path_on place front nothing ≡ Ok before
  pub heavy : IsHeavyLink place before link

-- a list of paths with such a path, before which all are within the limits
pub record HasHeavyPath (place : ℕ) (paths : List (List Link)) : Type 0 where
  pub front : List (List Link)
  pub path : List Link
  pub rest : List (List Link)
  pub cut : paths ≡ front ++ path ∷ rest
  pub before : List Composition
  pub fine : AreComposed place front before
  pub heavy : IsHeavyPath place path

-- Where there are few paths and each number stays small, the group is refused for its atoms exactly where a path has too many.
abbrev pub AtomsRefuse : Type 0
AtomsRefuse = (place : ℕ) (xs : Pieces) (before : ℕ) → ways_along xs ≤ 64 → all_small place (paths_along xs) ≡ Ok tt
    → (grouped place xs before ≡ Err (faults.Limit limits.Atoms place)) ↔ HasHeavyPath place (paths_along xs)
