-- The requirements on equations as rows of a matrix.
--
-- For each mode there is a row for each variable, with the coefficient that the variable has in the equation's value behind the
-- mode less the value before it, and then one with the constant; and the same for the start, where the columns behind the
-- equation's own are the factors of the start's equations. A boolean variable stands in no form, so its one row says that it has
-- no coefficient.
use Rattle.std.specs.Prelude.{ℕ, zero, suc, ◌+◌, ◌==◌, if◌then◌else◌, List, [], ◌∷◌, ◌++◌, length, ℤ, pos, neg_ℤ, ◌+ℤ◌, Option}
use Rattle.st_linear.specs.Linear.{Linear, with_entry}
use Rattle.st_form.specs.Exchange.{Exchange, is_listed}
use Rattle.elimination_laws.specs.Mixing.{part}
use Rattle.null_laws.specs.Reduction.{Entries}
use Rattle.null_laws.specs.Vectors.{basis}
use Rattle.transition_system.specs.Systems.{PlainMode, System}
use Rattle.equation_laws.specs.Sums.{presence, passage}
use Rattle.equation_laws.specs.Space.{start_forms, start_places, modes_of, variables_of, columns_of}

-- a row, unless it has no entry: what every equation meets needs none
abbrev pub with_row : Entries → List Entries → List Entries
with_row [] rows = rows
with_row (e ∷ es) rows = (e ∷ es) ∷ rows

-- how often a variable u stands in the new form of a variable v, less how often in v itself
abbrev pub gain : ℕ → ℕ → Linear → ℤ
gain u v f = part u f.entries +ℤ neg_ℤ (if u == v then pos 1 else pos 0)

-- entries for the variables that a change changes
abbrev pub over_changed : (ℕ → Linear → ℤ) → List (ℕ × Linear) → Entries
over_changed g [] = []
over_changed g (p ∷ ps) = with_entry p.0 (g p.0 p.1) (over_changed g ps)

-- entries for so many locations, from number l on
abbrev pub over_places : ℕ → (ℕ → ℤ) → ℕ → ℕ → Entries
over_places n g zero l = []
over_places n g (suc m) l = with_entry (n + l) (g l) (over_places n g m (l + 1))

-- entries for the factors of forms, from column k on
abbrev pub over_forms : (Linear → ℤ) → ℕ → List Linear → Entries
over_forms g k [] = []
over_forms g k (f ∷ fs) = with_entry k (neg_ℤ (g f)) (over_forms g (k + 1) fs)

abbrev pub variable_row : Exchange → ℕ → Entries
variable_row change u = over_changed (gain u) change.numbers

abbrev pub constant_row : ℕ → ℕ → Exchange → Entries
constant_row n locations change = over_changed (λ v f. f.constant) change.numbers ++ over_places n (passage change) locations 0

abbrev pub first_variable_row : ℕ → List Linear → ℕ → Entries
first_variable_row columns forms u = (u, pos 1) ∷ over_forms (λ f. part u f.entries) columns forms

abbrev pub first_constant_row : ℕ → ℕ → List ℕ → List Linear → Entries
first_constant_row n locations firsts forms =
    over_places n (λ l. presence (is_listed l firsts)) locations 0
    ++ (n + locations, pos 1) ∷ over_forms (λ f. f.constant) (n + locations + 1) forms

-- a row for each of so many variables, from u on, in front of others
abbrev pub variable_rows : (ℕ → Entries) → ℕ → ℕ → List Entries → List Entries
variable_rows make zero u rows = rows
variable_rows make (suc m) u rows = with_row (make u) (variable_rows make m (u + 1) rows)

abbrev pub mode_rows : ℕ → ℕ → List PlainMode → List Entries → List Entries
mode_rows n locations [] rows = rows
mode_rows n locations (m ∷ ms) rows =
    variable_rows (variable_row m.change) n 0 (with_row (constant_row n locations m.change) (mode_rows n locations ms rows))

abbrev pub first_rows : ℕ → ℕ → List ℕ → List Linear → List Entries
first_rows n locations firsts forms =
    variable_rows (first_variable_row (n + locations + 1) forms) n 0 (with_row (first_constant_row n locations firsts forms) [])

-- all rows of a system, and how many columns they have
abbrev pub rows_of : System → List Entries
rows_of system =
    mode_rows (variables_of system) system.locations (modes_of system)
    (first_rows (variables_of system) system.locations (start_places system) (start_forms system))

abbrev pub width_of : System → ℕ
width_of system = columns_of system + length (start_forms system)

-- the reduced echelon basis of the space; none where the elimination comes to a number of size 2^100
abbrev pub basis_of : System → Option (List Entries)
basis_of system = basis (width_of system) (columns_of system) (rows_of system)
