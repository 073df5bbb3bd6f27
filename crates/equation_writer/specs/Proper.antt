-- What equations that are found keep: variables and locations rise, no coefficient is 0, and each number is below 2^100 in size.
use Rattle.std.specs.Prelude.{◌≡◌, IsTrue, List, [], ◌∷◌, Some}
use Rattle.st_linear.specs.Linear.{is_small}
use Rattle.matrix_rows.specs.Rows.{IsKept}
use Rattle.transition_system.specs.Systems.{System}
use Rattle.transition_system.specs.Bounds.{IsSystem}
use Rattle.equation_laws.specs.Equations.{PlainEquation, found}

pub record IsProper (e : PlainEquation) : Type 0 where
  pub numbers : IsKept e.numbers
  pub places : IsKept e.places
  pub constant : IsTrue (is_small e.constant)

abbrev pub AreProper : List PlainEquation → Type 0
AreProper [] = Unit {0}
AreProper (e ∷ es) = IsProper e × AreProper es

abbrev pub FoundAreProper : Type 0
FoundAreProper = (system : System) (es : List PlainEquation) → IsSystem system → found system ≡ Some es → AreProper es
