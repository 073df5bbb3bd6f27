-- What is done at a problem, in this order. A false problem is closed. Where a conjunct has a location, the first one
-- decides: the outermost undecided component among its component and those around it. Else the first boolean variable
-- is decided. Else the first disjunction is split. Else the lines are eliminated.
use Rattle.std.specs.Prelude.{ℕ, zero, suc, List, length, slice_get, slice_index_or, Option, Some, None, option_and_then}
use Rattle.std.specs.Option.{option_map}
use Rattle.st_linear.specs.declared.rows.Line.{Line}
use Rattle.st_form.specs.Formula.{Formula, Formulas, truth_value, row, equal, bool_var, at, negation, every, some, none, more}
use Rattle.control_states.specs.declared.alternative.Alternative.{Alternative}
use Rattle.control_states.specs.Control.{ComponentFacts, ControlFacts, component_at}
use Rattle.st_certificate.specs.Tree.{Step, by_case, by_truth, by_split, Tree, impossible, linear}
use Rattle.farkas_check.specs.Problem.{Setting, Problem, divided_into, lines_of, first_problem}
use Rattle.elimination_laws.specs.Stages.{Stop, at_rows, at_variable, Ending, through, contradiction, too_wide, ending}
use Rattle.elimination_laws.specs.declared.stage.WideStage.{WideStage}
use Rattle.elimination_laws.specs.declared.stage.WideStage.TheVariants.{Rows, Variable}
use Rattle.elimination_laws.specs.Points.{point_of}
use Rattle.search_laws.specs.States.{State, state_of}
use Rattle.search_laws.specs.Walks.{Failure, left_open, given_up, Move, closes, divides, fails, PathStep, Found, found, stopped, searched}

abbrev pub or_else : {A : Type 0} → Option A → Option A → Option A
or_else (Some x) o = Some x
or_else None o = o

abbrev mutual
  -- the first location, from left to right
  pub first_place : Formula → Option ℕ
  first_place (truth_value b) = None
  first_place (row f) = None
  first_place (equal f) = None
  first_place (bool_var v) = None
  first_place (at l) = Some l
  first_place (negation f) = first_place f
  first_place (every fs) = first_place_of fs
  first_place (some fs) = first_place_of fs

  pub first_place_of : Formulas → Option ℕ
  first_place_of none = None
  first_place_of (more f fs) = or_else (first_place f) (first_place_of fs)

abbrev mutual
  -- the first boolean variable, from left to right
  pub first_truth : Formula → Option ℕ
  first_truth (truth_value b) = None
  first_truth (row f) = None
  first_truth (equal f) = None
  first_truth (bool_var v) = Some v
  first_truth (at l) = None
  first_truth (negation f) = first_truth f
  first_truth (every fs) = first_truth_of fs
  first_truth (some fs) = first_truth_of fs

  pub first_truth_of : Formulas → Option ℕ
  first_truth_of none = None
  first_truth_of (more f fs) = or_else (first_truth f) (first_truth_of fs)

-- the component, where it is undecided
abbrev pub if_undecided : ℕ → Option Alternative → Option ℕ
if_undecided c None = Some c
if_undecided c (Some a) = None

-- the outermost undecided one among a component and those around it, n in all
abbrev pub outermost : List ComponentFacts → List (Option Alternative) → ℕ → ℕ → Option ℕ
outermost parts cases zero c = None
outermost parts cases (suc n) c =
    or_else (option_and_then (λ w. outermost parts cases n w.0) (component_at parts c).around) (if_undecided c (slice_index_or cases c None))

-- the component that is decided next for a location
abbrev pub component_for : ControlFacts → List (Option Alternative) → ℕ → Option ℕ
component_for k cases l = option_and_then (outermost k.components cases (length k.components)) (slice_get k.owners l)

-- where a step can't be taken, the problem is left open without a state; this never comes where locations, boolean
-- variables and components are those of the program
abbrev pub divided : Step → Option (List Problem) → Move Problem
divided s None = fails (left_open None)
divided s (Some ps) = divides s ps

abbrev pub by_component : Setting → Problem → Formulas → Option ℕ → Move Problem
by_component k p fs None = fails (left_open None)
by_component k p fs (Some c) = divided (by_case c) (divided_into k p fs (by_case c))

abbrev pub stage_of : Stop → WideStage
stage_of at_rows = Rows
stage_of (at_variable v) = Variable v

abbrev pub by_ending : Setting → Problem → List Line → Ending → Move Problem
by_ending k p lines (contradiction picks) = closes (linear picks)
by_ending k p lines (through us) = fails (left_open (option_map (state_of k p) (point_of lines (length k.variables) us)))
by_ending k p lines (too_wide s) = fails (given_up (stage_of s))

-- the lines are eliminated
abbrev pub by_lines : Setting → Problem → List Line → Move Problem
by_lines k p lines = by_ending k p lines (ending lines (length k.variables))

-- the first disjunction is split, if there is one
abbrev pub by_disjunction : Setting → Problem → Formulas → Option (List Problem) → Move Problem
by_disjunction k p fs (Some ps) = divides (by_split 0) ps
by_disjunction k p fs None = by_lines k p (lines_of fs)

-- the first boolean variable is decided, if there is one
abbrev pub by_variable : Setting → Problem → Formulas → Option ℕ → Move Problem
by_variable k p fs (Some v) = divided (by_truth v) (divided_into k p fs (by_truth v))
by_variable k p fs None = by_disjunction k p fs (divided_into k p fs (by_split 0))

-- a component is decided for the first location, if there is one
abbrev pub by_place : Setting → Problem → Formulas → Option ℕ → Move Problem
by_place k p fs (Some l) = by_component k p fs (component_for k.control p.cases l)
by_place k p fs None = by_variable k p fs (first_truth_of fs)

abbrev pub by_conjuncts : Setting → Problem → Option Formulas → Move Problem
by_conjuncts k p None = closes impossible
by_conjuncts k p (Some fs) = by_place k p fs (first_place_of fs)

-- what is done at a problem
abbrev pub move_of : Setting → Problem → Move Problem
move_of k p = by_conjuncts k p p.conjuncts

-- what the search says of a condition: a certificate; a problem that is left open, with its path and a state; or where it gave up
pub data Verdict : Type 0 where
  valid : Tree → Verdict
  open_at : List PathStep → Option State → Verdict
  wide_at : List PathStep → WideStage → Verdict

abbrev pub failed_at : List PathStep → Failure → Verdict
failed_at path (left_open state) = open_at path state
failed_at path (given_up s) = wide_at path s

abbrev pub verdict_of : Found → Verdict
verdict_of (found t n) = valid t
verdict_of (stopped path e) = failed_at path e

-- the verdict on a condition
abbrev pub decided : Setting → Formula → Formula → Verdict
decided k given shown = verdict_of (searched (move_of k) (first_problem k given shown))
