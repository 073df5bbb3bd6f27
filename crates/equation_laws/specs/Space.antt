-- Which equations every mode of a system keeps, and the start meets.
use Rattle.std.specs.Prelude.{◌≡◌, ℕ, ◌+◌, ◌<◌, List, [], ◌∷◌, ◌++◌, length, take, flat_map, ℤ, pos, ◌+ℤ◌, ◌*ℤ◌}
use Rattle.st_linear.specs.Linear.{Linear, value}
use Rattle.st_form.specs.Formula.{Formula, Formulas, truth_value, row, equal, bool_var, at, negation, every, some, none, more}
use Rattle.null_laws.specs.Bases.{Vector}
use Rattle.transition_system.specs.Systems.{PlainMode, System}
use Rattle.equation_laws.specs.Sums.{moved_value, first_value}

abbrev mutual
  -- the equations among the parts of a conjunction; conjunctions in it are opened, and nothing else
  pub equations : Formula → List Linear
  equations (truth_value b) = []
  equations (row f) = []
  equations (equal f) = f ∷ []
  equations (bool_var v) = []
  equations (at l) = []
  equations (negation f) = []
  equations (every fs) = equations_among fs
  equations (some fs) = []

  pub equations_among : Formulas → List Linear
  equations_among none = []
  equations_among (more f fs) = equations f ++ equations_among fs

abbrev mutual
  -- the locations among the parts
  pub places : Formula → List ℕ
  places (truth_value b) = []
  places (row f) = []
  places (equal f) = []
  places (bool_var v) = []
  places (at l) = l ∷ []
  places (negation f) = []
  places (every fs) = places_among fs
  places (some fs) = []

  pub places_among : Formulas → List ℕ
  places_among none = []
  places_among (more f fs) = places f ++ places_among fs

-- the first equations of the start, and its locations
abbrev pub start_forms : System → List Linear
start_forms system = take 256 (equations system.initial)

abbrev pub start_places : System → List ℕ
start_places system = places system.initial

abbrev pub modes_of : System → List PlainMode
modes_of system = flat_map (λ t. t.modes) system.transitions

-- how many variables there are, and how many columns an equation has
abbrev pub variables_of : System → ℕ
variables_of system = length system.truths

abbrev pub columns_of : System → ℕ
columns_of system = length system.truths + system.locations + 1

-- each mode keeps the equation's value, in every store
abbrev pub AreKept : ℕ → ℕ → Vector → List PlainMode → Type 0
AreKept n locations x [] = Unit {0}
AreKept n locations x (m ∷ ms) = ((store : ℕ → ℤ) → moved_value n locations x m.change store ≡ pos 0) × AreKept n locations x ms

-- the sum of the forms' values, each times its factor, the factors from number k on
abbrev pub combination : (ℕ → ℤ) → ℕ → List Linear → (ℕ → ℤ) → ℤ
combination factors k [] store = pos 0
combination factors k (f ∷ fs) store = value store f *ℤ factors k +ℤ combination factors (k + 1) fs store

-- at the start the equation's value is a combination of the start's equations, with fractions as factors
pub record Starts (system : System) (x : Vector) : Type 0 where
  pub times : ℕ
  pub factors : ℕ → ℤ
  pub positive : 0 < times
  pub combines : (store : ℕ → ℤ) → first_value (variables_of system) system.locations (start_places system) x store *ℤ pos times
      ≡ combination factors 0 (start_forms system) store

-- the space of all such equations
pub record IsInductive (system : System) (x : Vector) : Type 0 where
  pub kept : AreKept (variables_of system) system.locations x (modes_of system)
  pub starts : Starts system x
