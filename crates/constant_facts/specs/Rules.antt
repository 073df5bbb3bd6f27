-- Which facts are kept by a mode, and given by the start, as far as constants and copies of variables say.
use Rattle.std.specs.Prelude.{ℕ, zero, suc, ◌+◌, Bool, true, false, not, ◌&&◌, ◌||◌, ◌==◌, List, [], ◌∷◌, ◌++◌, filter, length, slice_get, slice_index_or, ℤ, pos, neg_ℤ, Option, Some, None, is_some, if◌then◌else◌}
use Rattle.std.specs.List.{list_any}
use Rattle.std.specs.Ordering.{int_eq}
use Rattle.st_linear.specs.Linear.{Linear, form_for}
use Rattle.st_form.specs.Formula.{Formula, Formulas, truth_value, row, equal, bool_var, at, negation, every, some, none, more}
use Rattle.st_form.specs.Exchange.{Exchange, is_listed, truth_for}
use Rattle.control_states.specs.declared.alternative.Alternative.{Alternative}
use Rattle.control_states.specs.declared.alternative.Alternative.TheVariants.{Location}
use Rattle.control_states.specs.Control.{ControlFacts}
use Rattle.control_states.specs.Place.{place}
use Rattle.transition_system.specs.Systems.{PlainMode, System}
use Rattle.constant_facts.specs.declared.fact.Constant.{Constant}
use Rattle.constant_facts.specs.declared.fact.Constant.TheVariants.{Number, Truth}
use Rattle.constant_facts.specs.declared.fact.Fact.{Fact}
use Rattle.constant_facts.specs.Facts.{modes_of}

abbrev pub is_truth : Bool → Bool → Bool
is_truth true b = b
is_truth false b = not b

abbrev pub is_same : Constant → Constant → Bool
is_same (Number y) (Number z) = int_eq y z
is_same (Number y) (Truth b) = false
is_same (Truth a) (Number z) = false
is_same (Truth a) (Truth b) = is_truth a b

-- one of the facts says that the variable has the value
abbrev pub knows : List Fact → ℕ → Constant → Bool
knows fs v c = list_any (λ f. f.variable == v && is_same f.value c) fs

-- the facts of these locations
abbrev pub known_at : List ℕ → List Fact → List Fact
known_at places fs = filter (λ f. is_listed f.place places) fs

-- the form is this number, or a variable that is known to be this number
abbrev pub entries_are : List Fact → ℤ → List (ℕ × ℤ) → ℤ → Bool
entries_are known k [] z = int_eq k z
entries_are known k (e ∷ []) z = (int_eq k (pos 0) && int_eq e.1 (pos 1)) && knows known e.0 (Number z)
entries_are known k (e ∷ (d ∷ es)) z = false

abbrev pub form_is : List Fact → Linear → ℤ → Bool
form_is known f z = entries_are known f.constant f.entries z

-- the formula is this truth value, or a variable that is known to have it; or it denies such a formula
abbrev pub formula_is : List Fact → Formula → Bool → Bool
formula_is known (truth_value a) b = is_truth a b
formula_is known (row f) b = false
formula_is known (equal f) b = false
formula_is known (bool_var w) b = knows known w (Truth b)
formula_is known (at l) b = false
formula_is known (negation f) b = formula_is known f (not b)
formula_is known (every fs) b = false
formula_is known (some fs) b = false

abbrev pub number_is : List Fact → Option Linear → ℕ → ℤ → Bool
number_is known None v z = knows known v (Number z)
number_is known (Some f) v z = form_is known f z

-- behind the change the variable has the value
abbrev pub gives : List Fact → Exchange → ℕ → Constant → Bool
gives known x v (Number z) = number_is known (form_for v x.numbers) v z
gives known x v (Truth b) = formula_is known (truth_for v x.truths) b

abbrev pub is_put : ℕ → List (ℕ × Formula) → Bool
is_put v ps = list_any (λ p. p.0 == v) ps

-- the change gives the variable a value
abbrev pub changes : Exchange → ℕ → Constant → Bool
changes x v (Number z) = is_some (form_for v x.numbers)
changes x v (Truth b) = is_put v x.truths

-- what a table says of a location
abbrev pub places_or : List (Option Bool) → ℕ → Option Bool
places_or places l = slice_index_or places l None

-- control is not at the location
abbrev pub is_false : Option Bool → Bool
is_false None = false
is_false (Some b) = not b

-- the location is left by the change, or control isn't there, or the variable isn't changed
abbrev pub is_spared : (ℕ → Option Bool) → Exchange → Fact → Bool
is_spared places x f = is_listed f.place x.leaves || (is_false (places f.place) || not (changes x f.variable f.value))

-- the fact holds behind the change, where these facts hold before it and control is so
abbrev pub is_kept : List Fact → (ℕ → Option Bool) → Exchange → Fact → Bool
is_kept known places x f = gives known x f.variable f.value || (not (is_listed f.place x.enters) && is_spared places x f)

-- of a component that owns one of these locations, this location
abbrev pub is_owner : Option ℕ → ℕ → Bool
is_owner None c = false
is_owner (Some d) c = d == c

abbrev pub case_of : List ℕ → List ℕ → ℕ → Option Alternative
case_of owners [] c = None
case_of owners (l ∷ ls) c = if is_owner (slice_get owners l) c then Some (Location l) else case_of owners ls c

-- of so many components, from c on
abbrev pub cases_from : List ℕ → List ℕ → ℕ → ℕ → List (Option Alternative)
cases_from owners ls zero c = []
cases_from owners ls (suc n) c = case_of owners ls c ∷ cases_from owners ls n (c + 1)

-- where control is at these locations, what is decided of others
abbrev pub decided : ControlFacts → List ℕ → ℕ → Option Bool
decided k ls l = place k (cases_from k.owners ls (length k.components) 0) l

-- those of the facts that a mode keeps, and that all modes in turn keep
abbrev pub kept_by : ControlFacts → PlainMode → List Fact → List Fact
kept_by k m fs = filter (is_kept (known_at m.at fs) (decided k m.at) m.change) fs

abbrev pub kept_by_all : ControlFacts → List PlainMode → List Fact → List Fact
kept_by_all k [] fs = fs
kept_by_all k (m ∷ ms) fs = kept_by_all k ms (kept_by k m fs)

-- an equation between a variable and a number
abbrev pub entries_say : ℤ → List (ℕ × ℤ) → ℕ → ℤ → Bool
entries_say k [] v z = false
entries_say k (e ∷ []) v z = e.0 == v && ((int_eq e.1 (pos 1) && int_eq z (neg_ℤ k)) || (int_eq e.1 (neg_ℤ (pos 1)) && int_eq z k))
entries_say k (e ∷ (d ∷ es)) v z = false

abbrev pub equation_says : Linear → ℕ → Constant → Bool
equation_says f v (Number z) = entries_say f.constant f.entries v z
equation_says f v (Truth b) = false

abbrev pub variable_says : ℕ → ℕ → Constant → Bool → Bool
variable_says w v (Number z) b = false
variable_says w v (Truth a) b = w == v && is_truth a b

abbrev pub denial_says : Formula → ℕ → Constant → Bool
denial_says (truth_value b) v c = false
denial_says (row f) v c = false
denial_says (equal f) v c = false
denial_says (bool_var w) v c = variable_says w v c false
denial_says (at l) v c = false
denial_says (negation f) v c = false
denial_says (every fs) v c = false
denial_says (some fs) v c = false

abbrev mutual
  -- one of the parts of the conjunction says that the variable has the value
  pub says : Formula → ℕ → Constant → Bool
  says (truth_value b) v c = false
  says (row f) v c = false
  says (equal f) v c = equation_says f v c
  says (bool_var w) v c = variable_says w v c true
  says (at l) v c = false
  says (negation f) v c = denial_says f v c
  says (every fs) v c = one_says fs v c
  says (some fs) v c = false

  pub one_says : Formulas → ℕ → Constant → Bool
  one_says none v c = false
  one_says (more f fs) v c = says f v c || one_says fs v c

abbrev mutual
  -- the locations among the parts
  pub places : Formula → List ℕ
  places (truth_value b) = []
  places (row f) = []
  places (equal f) = []
  places (bool_var v) = []
  places (at l) = l ∷ []
  places (negation f) = []
  places (every fs) = places_among fs
  places (some fs) = []

  pub places_among : Formulas → List ℕ
  places_among none = []
  places_among (more f fs) = places f ++ places_among fs

-- the fact holds at the beginning
abbrev pub is_first : (ℕ → Option Bool) → Formula → Fact → Bool
is_first places initial f = is_false (places f.place) || says initial f.variable f.value

abbrev pub first_of : ControlFacts → Formula → List Fact → List Fact
first_of k initial fs = filter (is_first (decided k (places initial)) initial) fs

-- those of the facts that the start gives, and of these those that all modes in turn keep
abbrev pub narrowed : ControlFacts → System → List Fact → List Fact
narrowed k system fs = kept_by_all k (modes_of system) (first_of k system.initial fs)
