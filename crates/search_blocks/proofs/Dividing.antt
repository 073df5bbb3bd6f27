-- Each step of the search can be written, and divides a problem into one or more.
use Rattle.std.proofs.Common.{◌≡◌, ℕ, zero, suc, ◌+◌, ◌-◌, ◌^◌, ◌<◌, Bool, true, false, nat_lt, List, [], ◌∷◌, length, refl, arith, subst}
use Rattle.std.specs.Prelude.{Option, Some, None, ◌==◌, slice_get, if◌then◌else◌}
use Rattle.std.specs.Option.{option_map}
use Rattle.std.proofs.lemmas.Bool.{and_parts}
use Rattle.std.proofs.lemmas.Bool.Decides.{nat_tests}
use Rattle.st_form.specs.Formula.{Formula, Formulas, truth_value, row, equal, bool_var, at, negation, every, some, none, more}
use Rattle.st_form.specs.Simple.{append}
use Rattle.st_form.specs.declared.variables.Variable.{Variable}
use Rattle.st_certificate.specs.Tree.{Step, by_case, by_truth, by_split, by_cut, Trees, branch}
use Rattle.control_states.specs.declared.alternative.Alternative.{Alternative}
use Rattle.control_states.specs.Control.{ControlFacts, component_at}
use Rattle.farkas_check.specs.Problem.{Setting, Problem, is_free, may_case, case_problems, has_truth, may_truth, truth_problem, disjuncts_of, split_by, in_place, split_from, split_problems, divided_into}
use Rattle.cert_text.specs.declared.scan.Branching.{Branching}
use Rattle.cert_text.specs.declared.scan.Branching.TheVariants as nodes
use Rattle.cert_text.specs.Tree.{branching_of}
use Rattle.cert_text.specs.Grammar.{is_long}
use Rattle.st_linear.specs.declared.rows.Line.{Line}
use Rattle.farkas_check.specs.Problem.{lines_of}
use Rattle.elimination_laws.specs.Stages.{Ending, through, contradiction, too_wide, ending}
use Rattle.search_laws.specs.Forms.{IsInOrder}
use Rattle.search_laws.specs.Moves.{first_place_of, first_truth_of, component_for, divided, by_component, by_ending, by_disjunction, by_variable, by_place, by_conjuncts, move_of}
use Rattle.search_laws.specs.Walks.{Move, closes, divides, fails}
use Rattle.search_laws.specs.Steady.{HaveTwo, IsSteady, AreSteady, IsNoCut}

-- there is one
abbrev pub HasOne : {A : Type 0} → List A → Type 0
HasOne [] = ⊥
HasOne (x ∷ xs) = Unit {0}

-- how a step is written
pub record IsWritten (s : Step) : Type 0 where
  pub branching : Branching
  pub number : ℕ
  pub short : is_long (number + 1) ≡ false
  pub same : (ts : Trees) → branching_of branching number ts ≡ branch s ts

pub record Divides (s : Step) (ps : List Problem) : Type 0 where
  pub written : IsWritten s
  pub some : HasOne ps

short_below : (n m : ℕ) → n < m → m < 2 ^ 32 → is_long (n + 1) ≡ false
short_below n m h g = grind (arith, nat_tests)

-- the problems of a component's alternatives
cases_there : (k : ControlFacts) (p : Problem) (fs : Formulas) (c : ℕ) (choices : List Alternative) → 0 < length choices → HasOne (case_problems k p fs c choices)
cases_there k p fs c [] h = absurd (omega (arith, h))
cases_there k p fs c (a ∷ rest) h = tt

-- of a variable's values
below : (vs : List Variable) (v : ℕ) → has_truth (slice_get vs v) ≡ true → v < length vs
below [] v h = absurd cc
below (x ∷ xs) zero h = omega arith
below (x ∷ xs) (suc v) h = let g = below xs v h in omega (arith, g)

-- of the parts of a disjunction
parts_there : (before gs behind : Formulas) → HaveTwo gs → HasOne (in_place before gs behind)
parts_there before none behind h = absurd h
parts_there before (more g gs) behind h = tt

abbrev IfOne : Option (List Formulas) → Type 0
IfOne None = Unit {0}
IfOne (Some ls) = HasOne ls

abbrev IfTwo : Option Formulas → Type 0
IfTwo None = Unit {0}
IfTwo (Some gs) = HaveTwo gs

disjuncts_two : (f : Formula) → IsSteady f true → IfTwo (disjuncts_of f)
disjuncts_two (truth_value b) h = tt
disjuncts_two (row f) h = tt
disjuncts_two (equal f) h = tt
disjuncts_two (bool_var v) h = tt
disjuncts_two (at l) h = tt
disjuncts_two (negation f) h = tt
disjuncts_two (every fs) h = tt
disjuncts_two (some fs) h = h.1

by_parts : (before : Formulas) (k : ℕ) (behind : Formulas) (further : ℕ → Option (List Formulas)) (o : Option Formulas) → IfTwo o → ((j : ℕ) → IfOne (further j)) → IfOne (split_by before k behind further o)
by_parts before k behind further None h r = r k
by_parts before k behind further (Some gs) h r = by_test (k == 0)
  where
    by_test : (b : Bool) → IfOne (if b then Some (in_place before gs behind) else further (k - 1))
    by_test true = parts_there before gs behind h
    by_test false = r (k - 1)

splits_there : (fs before : Formulas) (k : ℕ) → AreSteady fs true → IfOne (split_from before k fs)
splits_there none before k h = tt
splits_there (more f fs) before k h =
    by_parts before k fs (λ j. split_from (append before (more f none)) j fs) (disjuncts_of f) (disjuncts_two f h.0) (λ j. splits_there fs (append before (more f none)) j h.1)

problems_there : (p : Problem) (ls : List Formulas) → HasOne ls → HasOne (split_problems p ls)
problems_there p [] h = absurd h
problems_there p (fs ∷ rest) h = tt

module _ (k : Setting) (order : IsInOrder k.control) (parts : length k.control.components < 2 ^ 32) (variables : length k.variables < 2 ^ 32) (p : Problem) (fs : Formulas) where
  case_divides : (c : ℕ) (ps : List Problem) → divided_into k p fs (by_case c) ≡ Some ps → Divides (by_case c) ps
  case_divides c ps e = by_test (may_case k.control p.cases c) refl e
    where
      choices : List Alternative
      choices = (component_at k.control.components c).alternatives

      first : may_case k.control p.cases c ≡ true → c < length k.control.components
      first is =
          let t = and_parts (nat_lt c (length k.control.components)) _ is in
          less (length k.control.components) t.0 where
            less : (m : ℕ) → nat_lt c m ≡ true → c < m
            less m h = grind (arith, nat_tests)

      by_test : (b : Bool) → may_case k.control p.cases c ≡ b → (if b then Some (case_problems k.control p fs c choices) else None) ≡ Some ps → Divides (by_case c) ps
      by_test true is e =
          let low = first is in
          let same : case_problems k.control p fs c choices ≡ ps = cc in
          record {
            written = record { branching = nodes.Case; number = c; short = short_below c (length k.control.components) low parts; same = λ ts. refl };
            some = subst (λ (x : List Problem). HasOne x) same (cases_there k.control p fs c choices (order.choice c low));
          }
      by_test false is e = absurd cc

  truth_divides : (v : ℕ) (ps : List Problem) → divided_into k p fs (by_truth v) ≡ Some ps → Divides (by_truth v) ps
  truth_divides v ps e = by_test (may_truth k.variables p.truths v) refl e
    where
      by_test : (b : Bool) → may_truth k.variables p.truths v ≡ b → (if b then Some (truth_problem k.control p fs v true ∷ truth_problem k.control p fs v false ∷ []) else None) ≡ Some ps → Divides (by_truth v) ps
      by_test true is e =
          let t = and_parts (has_truth (slice_get k.variables v)) (is_free (slice_get p.truths v)) is in
          let same : truth_problem k.control p fs v true ∷ truth_problem k.control p fs v false ∷ [] ≡ ps = cc in
          record {
            written = record { branching = nodes.Truth; number = v; short = short_below v (length k.variables) (below k.variables v t.0) variables; same = λ ts. refl };
            some = subst (λ (x : List Problem). HasOne x) same tt;
          }
      by_test false is e = absurd cc

  split_some : (i : ℕ) (ps : List Problem) → AreSteady fs true → divided_into k p fs (by_split i) ≡ Some ps → HasOne ps
  split_some i ps steady e = by_lists (split_from none i fs) (splits_there fs none i steady) e
    where
      by_lists : (o : Option (List Formulas)) → IfOne o → option_map (split_problems p) o ≡ Some ps → HasOne ps
      by_lists None h e = absurd cc
      by_lists (Some ls) h e = let same : split_problems p ls ≡ ps = cc in subst (λ (x : List Problem). HasOne x) same (problems_there p ls h)

-- the search splits first disjunctions alone
abbrev IsFirst : Step → Type 0
IsFirst (by_split i) = i ≡ 0
IsFirst (by_case c) = Unit {0}
IsFirst (by_truth v) = Unit {0}
IsFirst (by_cut f) = Unit {0}

abbrev SplitsFirst : Move Problem → Type 0
SplitsFirst (closes t) = Unit {0}
SplitsFirst (divides s ps) = IsFirst s
SplitsFirst (fails e) = Unit {0}

divided_first : (s : Step) (o : Option (List Problem)) → IsFirst s → SplitsFirst (divided s o)
divided_first s None h = tt
divided_first s (Some ps) h = h

ending_first : (k : Setting) (p : Problem) (lines : List Line) (e : Ending) → SplitsFirst (by_ending k p lines e)
ending_first k p lines (contradiction picks) = tt
ending_first k p lines (through us) = tt
ending_first k p lines (too_wide s) = tt

disjunction_first : (k : Setting) (p : Problem) (fs : Formulas) (o : Option (List Problem)) → SplitsFirst (by_disjunction k p fs o)
disjunction_first k p fs (Some ps) = refl
disjunction_first k p fs None = ending_first k p (lines_of fs) (ending (lines_of fs) (length k.variables))

variable_first : (k : Setting) (p : Problem) (fs : Formulas) (o : Option ℕ) → SplitsFirst (by_variable k p fs o)
variable_first k p fs (Some v) = divided_first (by_truth v) (divided_into k p fs (by_truth v)) tt
variable_first k p fs None = disjunction_first k p fs (divided_into k p fs (by_split 0))

component_first : (k : Setting) (p : Problem) (fs : Formulas) (o : Option ℕ) → SplitsFirst (by_component k p fs o)
component_first k p fs None = tt
component_first k p fs (Some c) = divided_first (by_case c) (divided_into k p fs (by_case c)) tt

place_first : (k : Setting) (p : Problem) (fs : Formulas) (o : Option ℕ) → SplitsFirst (by_place k p fs o)
place_first k p fs (Some l) = component_first k p fs (component_for k.control p.cases l)
place_first k p fs None = variable_first k p fs (first_truth_of fs)

conjuncts_first : (k : Setting) (p : Problem) (o : Option Formulas) → SplitsFirst (by_conjuncts k p o)
conjuncts_first k p None = tt
conjuncts_first k p (Some fs) = place_first k p fs (first_place_of fs)

first_split : (k : Setting) (p : Problem) (i : ℕ) (ps : List Problem) → move_of k p ≡ divides (by_split i) ps → i ≡ 0
first_split k p i ps e = subst SplitsFirst e (conjuncts_first k p p.conjuncts)

module _ (k : Setting) (order : IsInOrder k.control) (parts : length k.control.components < 2 ^ 32) (variables : length k.variables < 2 ^ 32) where
  -- each division of the search
  pub step_divides : (p : Problem) (fs : Formulas) (s : Step) (ps : List Problem) → move_of k p ≡ divides s ps → IsNoCut s → AreSteady fs true → divided_into k p fs s ≡ Some ps → Divides s ps
  step_divides p fs (by_case c) ps m n steady e = case_divides k order parts variables p fs c ps e
  step_divides p fs (by_truth v) ps m n steady e = truth_divides k order parts variables p fs v ps e
  step_divides p fs (by_split i) ps m n steady e = record {
    written = record { branching = nodes.Split; number = i; short = short_below i 1 (let z = first_split k p i ps m in omega (arith, z)) (omega arith); same = λ ts. refl };
    some = split_some k order parts variables p fs i ps steady e;
  }
  step_divides p fs (by_cut f) ps m n steady e = absurd n
