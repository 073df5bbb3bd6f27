-- The state that is shown with an open problem. Decided components and boolean variables are as decided; an undecided
-- component that is active has its first alternative; an undecided boolean variable is false; integer variables have
-- the values of the trial point.
use Rattle.std.specs.Prelude.{ℕ, ◌+◌, Bool, false, if◌then◌else◌, List, [], ◌∷◌, ◌++◌, length, slice_get, slice_index_or, ℤ, Option, Some, None, option_and_then, unwrap_or}
use Rattle.st_linear.specs.Linear.{valuation}
use Rattle.st_form.specs.declared.variables.Variable.{Variable}
use Rattle.st_form.specs.Formula.{Situation}
use Rattle.st_program.specs.declared.residuals.Datum.{Datum}
use Rattle.st_program.specs.declared.residuals.Datum.TheVariants.{Number, Truth}
use Rattle.control_states.specs.declared.alternative.Alternative.{Alternative}
use Rattle.control_states.specs.Control.{ComponentFacts, ControlFacts}
use Rattle.control_states.specs.Place.{is_location}
use Rattle.farkas_check.specs.Problem.{Setting, Problem, known_active}

-- what each active component is at, in order, and the value of each variable
pub record State : Type 0 where
  pub control : List (ℕ × Alternative)
  pub store : List Datum

-- as decided, or the first alternative
abbrev pub taken : Option Alternative → List Alternative → Option Alternative
taken (Some a) choices = Some a
taken None choices = slice_get choices 0

-- what a component is at, where it is active by the components before it
abbrev pub next_standing : List (Option Alternative) → List (Option Alternative) → ComponentFacts → Option Alternative
next_standing cases before x = if known_active before x.around then taken (slice_index_or cases (length before) None) x.alternatives else None

-- the same of all components, in text order
abbrev pub standing_from : List (Option Alternative) → List (Option Alternative) → List ComponentFacts → List (Option Alternative)
standing_from cases before [] = before
standing_from cases before (x ∷ xs) = standing_from cases (before ++ next_standing cases before x ∷ []) xs

abbrev pub standing : ControlFacts → List (Option Alternative) → List (Option Alternative)
standing k cases = standing_from cases [] k.components

-- the components that are at something, by rising number
abbrev pub listed : ℕ → List (Option Alternative) → List (ℕ × Alternative)
listed c [] = []
listed c (None ∷ rest) = listed (c + 1) rest
listed c (Some a ∷ rest) = (c, a) ∷ listed (c + 1) rest

abbrev pub stands_at : ℕ → Option Alternative → Bool
stands_at l None = false
stands_at l (Some a) = is_location l a

-- control is at a location where its component stands at it
abbrev pub is_located : ControlFacts → List (Option Alternative) → ℕ → Bool
is_located k stood l = stands_at l (option_and_then (λ c. slice_index_or stood c None) (slice_get k.owners l))

-- the situation of a problem at the trial point
abbrev pub situation_of : ControlFacts → Problem → List ℤ → Situation
situation_of k p point = record {
  numbers = valuation point;
  truths = λ v. unwrap_or (slice_index_or p.truths v None) false;
  located = is_located k (standing k p.cases);
}

abbrev pub value_of : Variable → ℕ → Situation → Datum
value_of x v s = if x.truth then Truth (s.truths v) else Number (s.numbers v)

-- the values of the variables from v on
abbrev pub values_of : List Variable → ℕ → Situation → List Datum
values_of [] v s = []
values_of (x ∷ xs) v s = value_of x v s ∷ values_of xs (v + 1) s

-- the state that is shown
abbrev pub state_of : Setting → Problem → List ℤ → State
state_of k p point = record {
  control = listed 0 (standing k.control p.cases);
  store = values_of k.variables 0 (situation_of k.control p point);
}
