-- The code's values as plain data, and the parts of the rows that it makes.
use Rattle.std.specs.Prelude.{ℕ, List, [], ◌∷◌, map, Option, Some, None, ℤ, neg_ℤ, ◌+ℤ◌, IsTrue}
use Rattle.st_linear.specs.Linear.{Linear, are_small}
use Rattle.st_form.specs.Exchange.{Exchange, is_listed}
use Rattle.elimination_laws.specs.Mixing.{part}
use Rattle.linear_invariants.specs.declared.equation.Equation.{Equation}
use Rattle.equation_laws.specs.Equations.{PlainEquation}
use Rattle.equation_laws.specs.Sums.{presence}
use Rattle.equation_laws.specs.Rows.{gain}

abbrev pub plain_equation : Equation → PlainEquation
plain_equation e = record { numbers = e.numbers.items; places = e.places.items; constant = e.constant }

abbrev pub plain_equations : List Equation → List PlainEquation
plain_equations es = map plain_equation es

-- the coefficient of a variable in a form, or the form's constant
abbrev pub term_of : Option ℕ → Linear → ℤ
term_of None f = f.constant
term_of (Some u) f = part u f.entries

-- the same of a variable's new form, less that of the variable
abbrev pub gain_of : Option ℕ → ℕ → Linear → ℤ
gain_of None v f = f.constant
gain_of (Some u) v f = gain u v f

-- how often a location is entered, less how often it is left
abbrev pub passage_by : List ℕ → List ℕ → ℕ → ℤ
passage_by enters leaves l = presence (is_listed l enters) +ℤ neg_ℤ (presence (is_listed l leaves))
