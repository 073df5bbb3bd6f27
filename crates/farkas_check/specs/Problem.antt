-- Problems, and how they are divided. A problem has decisions of components and of boolean variables, and a list of
-- conjuncts that are simplified under them; or it is false. The problem of a condition has nothing decided and the
-- conjuncts of what is given and of the opposite of what is shown. When a decision is added, every conjunct is simplified
-- again, and the list is joined by the rule of conjunctions.
use Rattle.std.specs.Prelude.{ℕ, ◌-◌, Bool, true, false, ◌&&◌, ◌==◌, nat_lt, not, if◌then◌else◌, List, [], ◌∷◌, length, replicate, slice_get, slice_index_or, slice_set, Option, Some, None, option_and_then, ℤ}
use Rattle.std.specs.Option.{option_map}
use Rattle.st_linear.specs.Linear.{Linear}
use Rattle.st_linear.specs.Simple.{complement, negated}
use Rattle.st_form.specs.Formula.{Formula, Formulas, row, equal, negation, every, some, none, more}
use Rattle.st_form.specs.Simple.{Decided, nothing, simple, simples, gathered, parts, append, simple_row, opened}
use Rattle.control_states.specs.declared.alternative.Alternative.{Alternative}
use Rattle.st_form.specs.declared.variables.Variable.{Variable}
use Rattle.control_states.specs.Control.{ControlFacts, component_at}
use Rattle.control_states.specs.Place.{place, is_inside}
use Rattle.st_linear.specs.declared.rows.Line.{Line}
use Rattle.st_certificate.specs.Tree.{Step, by_case, by_truth, by_split, by_cut}

-- what a condition is about
pub record Setting : Type 0 where
  pub control : ControlFacts
  pub variables : List Variable

-- the decisions of components and of boolean variables, by number, and the conjuncts, or None where the problem is false
pub record Problem : Type 0 where
  pub cases : List (Option Alternative)
  pub truths : List (Option Bool)
  pub conjuncts : Option Formulas

-- a table has an entry there, and nothing is decided
abbrev pub is_free : {A : Type 0} → Option (Option A) → Bool
is_free None = false
is_free (Some None) = true
is_free (Some (Some a)) = false

abbrev pub decided_by : ControlFacts → List (Option Alternative) → List (Option Bool) → Decided
decided_by k cases truths = record { truths = λ v. slice_index_or truths v None; places = place k cases }

-- conjuncts under these decisions, simplified again and joined
abbrev pub posed : ControlFacts → List (Option Alternative) → List (Option Bool) → Formulas → Problem
posed k cases truths fs = record {
  cases = cases;
  truths = truths;
  conjuncts = gathered true (simples (decided_by k cases truths) fs true);
}

-- nothing is decided, and the conjuncts are those of what is given and of the opposite of what is shown
abbrev pub first_problem : Setting → Formula → Formula → Problem
first_problem k given shown = record {
  cases = replicate (length k.control.components) None;
  truths = replicate (length k.variables) None;
  conjuncts = parts true (simple nothing (every (more given (more (negation shown) none))) true);
}

abbrev pub is_within : ℕ → Option Alternative → Bool
is_within o None = false
is_within o (Some a) = is_inside o a

-- a process is active, and a child where the component around it is decided to be inside its cooperation
abbrev pub known_active : List (Option Alternative) → Option (ℕ × ℕ) → Bool
known_active cases None = true
known_active cases (Some w) = is_within w.1 (slice_index_or cases w.0 None)

-- a component that is active and undecided
abbrev pub may_case : ControlFacts → List (Option Alternative) → ℕ → Bool
may_case k cases c = nat_lt c (length k.components) && (is_free (slice_get cases c) && known_active cases (component_at k.components c).around)

-- the component decided to each of these alternatives
abbrev pub case_problems : ControlFacts → Problem → Formulas → ℕ → List Alternative → List Problem
case_problems k p fs c [] = []
case_problems k p fs c (a ∷ rest) = posed k (slice_set p.cases c (Some a)) p.truths fs ∷ case_problems k p fs c rest

abbrev pub has_truth : Option Variable → Bool
has_truth None = false
has_truth (Some v) = v.truth

abbrev pub has_number : Option Variable → Bool
has_number None = false
has_number (Some v) = not v.truth

-- an undecided boolean variable
abbrev pub may_truth : List Variable → List (Option Bool) → ℕ → Bool
may_truth vs truths v = has_truth (slice_get vs v) && is_free (slice_get truths v)

abbrev pub truth_problem : ControlFacts → Problem → Formulas → ℕ → Bool → Problem
truth_problem k p fs v b = posed k p.cases (slice_set p.truths v (Some b)) fs

-- each disjunct in the place between what stands before and what stands behind
abbrev pub in_place : Formulas → Formulas → Formulas → List Formulas
in_place before none behind = []
in_place before (more g gs) behind = append before (append (opened g) behind) ∷ in_place before gs behind

abbrev pub disjuncts_of : Formula → Option Formulas
disjuncts_of (some gs) = Some gs
disjuncts_of f = None

abbrev pub split_by : Formulas → ℕ → Formulas → (ℕ → Option (List Formulas)) → Option Formulas → Option (List Formulas)
split_by before k behind further None = further k
split_by before k behind further (Some gs) = if k == 0 then Some (in_place before gs behind) else further (k - 1)

abbrev pub split_at : Formulas → ℕ → Formulas → (ℕ → Option (List Formulas)) → Formula → Option (List Formulas)
split_at before k behind further f = split_by before k behind further (disjuncts_of f)

-- the conjuncts with each disjunct of the k-th disjunction in its place, behind others; None where there are fewer disjunctions
abbrev pub split_from : Formulas → ℕ → Formulas → Option (List Formulas)
split_from before k none = None
split_from before k (more f fs) = split_at before k fs (λ j. split_from (append before (more f none)) j fs) f

abbrev pub with_conjuncts : Problem → Option Formulas → Problem
with_conjuncts p o = record { cases = p.cases; truths = p.truths; conjuncts = o }

abbrev pub split_problems : Problem → List Formulas → List Problem
split_problems p [] = []
split_problems p (fs ∷ rest) = with_conjuncts p (Some fs) ∷ split_problems p rest

-- each variable is an integer variable
abbrev pub are_integers : List Variable → List (ℕ × ℤ) → Bool
are_integers vs [] = true
are_integers vs (e ∷ es) = has_number (slice_get vs e.0) && are_integers vs es

-- the simplified row joins the conjuncts at their end
abbrev pub cut_problem : Problem → Formulas → Linear → Problem
cut_problem p fs f = with_conjuncts p (option_map (append fs) (parts true (simple_row f)))

-- the problems for each alternative of a component
abbrev pub case_division : ControlFacts → Problem → Formulas → ℕ → Option (List Problem)
case_division k p fs c = if may_case k p.cases c then Some (case_problems k p fs c (component_at k.components c).alternatives) else None

-- the problems for both values of a boolean variable
abbrev pub truth_division : ControlFacts → List Variable → Problem → Formulas → ℕ → Option (List Problem)
truth_division k vs p fs v = if may_truth vs p.truths v then Some (truth_problem k p fs v true ∷ truth_problem k p fs v false ∷ []) else None

-- the problems for each disjunct of a disjunction
abbrev pub split_division : Problem → Formulas → ℕ → Option (List Problem)
split_division p fs i = option_map (split_problems p) (split_from none i fs)

-- the problems for both sides of a cut
abbrev pub cut_division : List Variable → Problem → Formulas → Linear → Option (List Problem)
cut_division vs p fs f = if are_integers vs f.entries then Some (cut_problem p fs f ∷ cut_problem p fs (complement f) ∷ []) else None

-- the problems that a step divides a problem with these conjuncts into, or None where the step may not be taken
abbrev pub divided_into : Setting → Problem → Formulas → Step → Option (List Problem)
divided_into k p fs (by_case c) = case_division k.control p fs c
divided_into k p fs (by_truth v) = truth_division k.control k.variables p fs v
divided_into k p fs (by_split i) = split_division p fs i
divided_into k p fs (by_cut f) = cut_division k.variables p fs f

-- the same for a problem, or None where it is false
abbrev pub division : Setting → Problem → Step → Option (List Problem)
division k p t = option_and_then (λ fs. divided_into k p fs t) p.conjuncts

abbrev pub rows_with : Formula → List Linear → List Linear
rows_with (row f) rest = f ∷ rest
rows_with (equal f) rest = f ∷ negated f ∷ rest
rows_with f rest = rest

-- the rows of conjuncts: of an equation its form, and its form times -1
abbrev pub rows_of : Formulas → List Linear
rows_of none = []
rows_of (more f fs) = rows_with f (rows_of fs)

abbrev pub lines_with : Formula → List Line → List Line
lines_with (row f) rest = record { form = f; equal = false } ∷ rest
lines_with (equal f) rest = record { form = f; equal = true } ∷ rest
lines_with f rest = rest

-- the lines of conjuncts
abbrev pub lines_of : Formulas → List Line
lines_of none = []
lines_of (more f fs) = lines_with f (lines_of fs)
