-- Where a search ends without a certificate: the problem that its path leads to.
use Rattle.std.specs.Prelude.{◌≡◌, ℕ, ◌<◌, true, List, [], ◌∷◌, length, slice_get, ◌⊎◌, Option, Some, None, option_and_then}
use Rattle.std.specs.Option.{option_map}
use Rattle.st_form.specs.Formula.{Formula, Formulas, truth_value, row, equal, bool_var, at, negation, every, some, none, more}
use Rattle.st_form.specs.declared.variables.Variable.{Variable}
use Rattle.control_states.specs.Control.{ControlFacts}
use Rattle.st_certificate.specs.Tree.{by_split}
use Rattle.farkas_check.specs.Problem.{Setting, Problem, has_truth, divided_into, division, lines_of, first_problem}
use Rattle.farkas_check.specs.Valid.{There}
use Rattle.elimination_laws.specs.Stages.{Use, Stop, through, too_wide, ending}
use Rattle.elimination_laws.specs.declared.stage.WideStage.{WideStage}
use Rattle.elimination_laws.specs.declared.stage.WideStage.TheVariants as stage
use Rattle.elimination_laws.specs.Points.{point_of}
use Rattle.search_laws.specs.States.{State, state_of}
use Rattle.search_laws.specs.Walks.{PathStep, searched}
use Rattle.search_laws.specs.Moves.{first_place_of, first_truth_of, stage_of, open_at, wide_at, decided, move_of}
use Rattle.search_laws.specs.Forms.{IsInOrder}
use Rattle.search_laws.specs.Sizes.{FailsShort}

abbrev mutual
  -- each location and each boolean variable is so
  pub AllLiterals : (ℕ → Type 0) → (ℕ → Type 0) → Formula → Type 0
  AllLiterals L T (truth_value b) = Unit {0}
  AllLiterals L T (row f) = Unit {0}
  AllLiterals L T (equal f) = Unit {0}
  AllLiterals L T (bool_var v) = T v
  AllLiterals L T (at l) = L l
  AllLiterals L T (negation f) = AllLiterals L T f
  AllLiterals L T (every fs) = AllLiteralsOf L T fs
  AllLiterals L T (some fs) = AllLiteralsOf L T fs

  pub AllLiteralsOf : (ℕ → Type 0) → (ℕ → Type 0) → Formulas → Type 0
  AllLiteralsOf L T none = Unit {0}
  AllLiteralsOf L T (more f fs) = AllLiterals L T f × AllLiteralsOf L T fs

abbrev pub IfLiterals : (ℕ → Type 0) → (ℕ → Type 0) → Option Formulas → Type 0
IfLiterals L T None = Unit {0}
IfLiterals L T (Some fs) = AllLiteralsOf L T fs

-- a location is that of a component
abbrev pub HasOwner : ControlFacts → ℕ → Type 0
HasOwner k l = (c : ℕ) × (slice_get k.owners l ≡ Some c) × (c < length k.components)

-- a variable is boolean
abbrev pub IsTruth : List Variable → ℕ → Type 0
IsTruth vs v = has_truth (slice_get vs v) ≡ true

-- each location is that of a component, and each boolean variable is one
abbrev pub IsTyped : Setting → Formula → Type 0
IsTyped k f = AllLiterals (HasOwner k.control) (IsTruth k.variables) f

-- the problem that a path leads to
abbrev pub problem_at : Setting → Problem → List PathStep → Option Problem
problem_at k p [] = Some p
problem_at k p (x ∷ path) = option_and_then (λ ps. option_and_then (λ q. problem_at k q path) (slice_get ps x.branch)) (division k p x.step)

-- nothing is left to decide or to split: the lines are eliminated
pub record IsAtLines (k : Setting) (p : Problem) (fs : Formulas) : Type 0 where
  pub are : p.conjuncts ≡ Some fs
  pub no_place : first_place_of fs ≡ None
  pub no_truth : first_truth_of fs ≡ None
  pub no_disjunction : divided_into k p fs (by_split 0) ≡ None

-- the lines have no contradiction; the state is there exactly where the trial point is
abbrev pub IsOpen : Setting → Option State → Problem → Type 0
IsOpen k state p = (fs : Formulas) × (us : List Use) × IsAtLines k p fs × (ending (lines_of fs) (length k.variables) ≡ through us)
    × (state ≡ option_map (state_of k p) (point_of (lines_of fs) (length k.variables) us))

-- elimination gives up at this stage
abbrev pub IsWide : Setting → WideStage → Problem → Type 0
IsWide k w p = (fs : Formulas) × (s : Stop) × IsAtLines k p fs × (ending (lines_of fs) (length k.variables) ≡ too_wide s) × (w ≡ stage_of s)

-- an open path leads to a problem of lines alone, which has no contradiction; so no problem is left open for want of a
-- step. Where the search gives up, the tree is too large, or elimination gives up on the problem that the path leads to.
pub record EndsThere (k : Setting) (given shown : Formula) : Type 0 where
  pub open_path : (path : List PathStep) (state : Option State) → decided k given shown ≡ open_at path state
      → There (problem_at k (first_problem k given shown) path) (IsOpen k state)
  pub wide_path : (path : List PathStep) (w : WideStage) → decided k given shown ≡ wide_at path w
      → (w ≡ stage.Tree) ⊎ There (problem_at k (first_problem k given shown) path) (IsWide k w)

abbrev pub SearchesEndThere : Type 0
SearchesEndThere = (k : Setting) (given shown : Formula) → IsInOrder k.control → IsTyped k given → IsTyped k shown → EndsThere k given shown

-- a failure's path has at most 400 steps, and the numbers of its branches are below 100,000
abbrev pub PathsAreShort : Type 0
PathsAreShort = (k : Setting) (given shown : Formula) → FailsShort (searched (move_of k) (first_problem k given shown))
