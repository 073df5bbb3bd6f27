-- What a formula of a proof speaks of: a program's variables, each by its type, and locations below the program's, with
-- numbers that are small.
use Rattle.std.specs.Prelude.{◌≡◌, ℕ, suc, ◌^◌, ◌<◌, true, List, Some, Ok, ⊤}
use Rattle.st_tokens.specs.Stream.{Stream}
use Rattle.st_linear.specs.Linear.{Linear}
use Rattle.st_form.specs.Formula.{Formula, Formulas, truth_value, row, equal, bool_var, at, negation, every, some, none, more}
use Rattle.st_form.specs.declared.variables.Variable.{Variable}
use Rattle.st_program.specs.Types.{type_of, LinearFits}
use Rattle.expression_typer.specs.Scope.{Names}
use Rattle.expression_typer.specs.Naming.{NamesOver}
use Rattle.assertions.specs.Reading.{form_of, linear_of}

abbrev mutual
  pub FormulaOver : List Variable → ℕ → Formula → Type 0
  FormulaOver vs locations (truth_value b) = ⊤
  FormulaOver vs locations (row f) = LinearFits vs (2 ^ 32) f
  FormulaOver vs locations (equal f) = LinearFits vs (2 ^ 32) f
  FormulaOver vs locations (bool_var v) = type_of vs v ≡ Some true
  FormulaOver vs locations (at l) = l < locations
  FormulaOver vs locations (negation f) = FormulaOver vs locations f
  FormulaOver vs locations (every fs) = FormulasOver vs locations fs
  FormulaOver vs locations (some fs) = FormulasOver vs locations fs

  pub FormulasOver : List Variable → ℕ → Formulas → Type 0
  FormulasOver vs locations none = ⊤
  FormulasOver vs locations (more f fs) = FormulaOver vs locations f × FormulasOver vs locations fs

-- What is read with such names speaks of no others.
abbrev pub FormsAreOver : Type 0
FormsAreOver =
    (vs : List Variable) (locations : ℕ) (names : Names) → NamesOver vs locations names
    → (s : Stream) (f : Formula) (rest : Stream) → form_of names s ≡ Ok (f, rest) → FormulaOver vs locations f

-- the numbers of an integer expression are at most 2^30
abbrev pub LinearsAreOver : Type 0
LinearsAreOver =
    (vs : List Variable) (locations : ℕ) (names : Names) → NamesOver vs locations names
    → (s : Stream) (f : Linear) (rest : Stream) → linear_of names s ≡ Ok (f, rest) → LinearFits vs (suc (2 ^ 30)) f
