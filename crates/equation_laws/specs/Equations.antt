-- The equations that are found: the vectors of the basis whose first entry belongs to a variable.
use Rattle.std.specs.Prelude.{◌≡◌, ℕ, ◌+◌, ◌-◌, ◌<◌, nat_lt, if◌then◌else◌, List, [], ◌∷◌, map, ℤ, pos, ◌+ℤ◌, ◌*ℤ◌, Option}
use Rattle.std.specs.Option.{option_map}
use Rattle.st_linear.specs.Linear.{entries_value}
use Rattle.st_form.specs.Formula.{Situation}
use Rattle.elimination_laws.specs.Mixing.{part}
use Rattle.null_laws.specs.Reduction.{Entries}
use Rattle.null_laws.specs.Bases.{Vector, first_column}
use Rattle.transition_system.specs.Systems.{System}
use Rattle.equation_laws.specs.Sums.{presence}
use Rattle.equation_laws.specs.Space.{variables_of, columns_of, IsInductive}
use Rattle.equation_laws.specs.Rows.{basis_of}

-- coefficients of variables and of locations, and a constant
pub record PlainEquation : Type 0 where
  pub numbers : List (ℕ × ℤ)
  pub places : List (ℕ × ℤ)
  pub constant : ℤ

-- what an equation is worth in a state; it holds where this is 0
abbrev pub worth : PlainEquation → Situation → ℤ
worth e s = entries_value s.numbers e.numbers +ℤ (entries_value (λ l. presence (s.located l)) e.places +ℤ e.constant)

-- the entries in columns below n, and those in the next columns, counted from there
abbrev pub entries_below : ℕ → Entries → Entries
entries_below n [] = []
entries_below n (e ∷ es) = if nat_lt e.0 n then e ∷ entries_below n es else []

abbrev pub entries_between : ℕ → ℕ → Entries → Entries
entries_between n locations [] = []
entries_between n locations (e ∷ es) =
    if nat_lt e.0 n then entries_between n locations es
    else (if nat_lt e.0 (n + locations) then (e.0 - n, e.1) ∷ entries_between n locations es else [])

abbrev pub equation_of : ℕ → ℕ → Entries → PlainEquation
equation_of n locations es = record {
  numbers = entries_below n es;
  places = entries_between n locations es;
  constant = part (n + locations) es;
}

-- the vectors whose first entry belongs to a variable
abbrev pub with_variables : ℕ → List Entries → List Entries
with_variables n [] = []
with_variables n (b ∷ bs) = if nat_lt (first_column b) n then b ∷ with_variables n bs else with_variables n bs

abbrev pub found_in : System → List Entries → List PlainEquation
found_in system bs = map (equation_of (variables_of system) system.locations) (with_variables (variables_of system) bs)

-- what is found; none where the elimination comes to a number of size 2^100
abbrev pub found : System → Option (List PlainEquation)
found system = option_map (found_in system) (basis_of system)

-- the coefficient of an equation in a column
abbrev pub coefficient : ℕ → ℕ → PlainEquation → Vector
coefficient n locations e c =
    if nat_lt c n then part c e.numbers
    else (if nat_lt c (n + locations) then part (c - n) e.places else e.constant)

-- a sum of multiples of equations
abbrev pub sum_by : ℕ → ℕ → List ℤ → List PlainEquation → Vector
sum_by n locations [] es c = pos 0
sum_by n locations (k ∷ ks) [] c = pos 0
sum_by n locations (k ∷ ks) (e ∷ es) c = coefficient n locations e c *ℤ k +ℤ sum_by n locations ks es c

-- some positive multiple of an equation is a sum of multiples of these and of an equation of the space that has no variable
pub record IsSpannedBy (system : System) (es : List PlainEquation) (x : Vector) : Type 0 where
  pub times : ℕ
  pub factors : List ℤ
  pub rest : Vector
  pub positive : 0 < times
  pub sum : (c : ℕ) → c < columns_of system
      → x c *ℤ pos times ≡ sum_by (variables_of system) system.locations factors es c +ℤ rest c
  pub free : (v : ℕ) → v < variables_of system → rest v ≡ pos 0
  pub inductive : IsInductive system rest

-- each equation is one of the space
abbrev pub AreInductive : System → List PlainEquation → Type 0
AreInductive system [] = Unit {0}
AreInductive system (e ∷ es) = IsInductive system (coefficient (variables_of system) system.locations e) × AreInductive system es

-- equations of the space that span it, together with those that have no variable
pub record AreFound (system : System) (es : List PlainEquation) : Type 0 where
  pub inductive : AreInductive system es
  pub span : (x : Vector) → IsInductive system x → IsSpannedBy system es x
