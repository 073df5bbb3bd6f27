-- What is so of a condition that the search leaves open: a problem of lines alone, which hold at a point in fractions.
use Rattle.std.specs.Prelude.{◌≡◌, ℕ, List, [], ◌∷◌, length, ℤ, pos, ◌+ℤ◌, ◌*ℤ◌, ◌<ℤ◌, Option}
use Rattle.std.specs.Option.{option_map}
use Rattle.st_linear.specs.Linear.{Linear, entries_value}
use Rattle.st_linear.specs.declared.rows.Line.{Line}
use Rattle.st_form.specs.Formula.{Formula, Formulas}
use Rattle.farkas_leaf.specs.Lines.{HoldsBy}
use Rattle.farkas_check.specs.Problem.{Setting, Problem, lines_of, first_problem}
use Rattle.farkas_check.specs.Valid.{There}
use Rattle.elimination_laws.specs.Stages.{Use, through, ending}
use Rattle.elimination_laws.specs.Points.{point_of}
use Rattle.search_laws.specs.Walks.{PathStep}
use Rattle.search_laws.specs.States.{State, state_of}
use Rattle.search_laws.specs.Moves.{open_at, decided}
use Rattle.search_laws.specs.Forms.{AllForms, IsProper, IsInOrder}
use Rattle.search_laws.specs.Ends.{IsTyped, IsAtLines, problem_at}

-- each variable is its numerator by the denominator; the form's value there, times the denominator
abbrev pub value_over : ℤ → (ℕ → ℤ) → Linear → ℤ
value_over denominator numerators f = f.constant *ℤ denominator +ℤ entries_value numerators f.entries

-- an equation is 0 there, and a row is at least 0
abbrev pub AllHoldAt : ℤ → (ℕ → ℤ) → List Line → Type 0
AllHoldAt denominator numerators [] = Unit {0}
AllHoldAt denominator numerators (l ∷ ls) = HoldsBy l.equal (value_over denominator numerators l.form) × AllHoldAt denominator numerators ls

pub record HoldInFractions (lines : List Line) : Type 0 where
  pub denominator : ℤ
  pub numerators : ℕ → ℤ
  pub positive : pos 0 <ℤ denominator
  pub hold : AllHoldAt denominator numerators lines

-- nothing is left to decide or to split, and the lines hold at a point in fractions; a state is known exactly where there is a
-- trial point in whole numbers, and it is the state of that point
pub record HoldsAtPoint (k : Setting) (state : Option State) (p : Problem) : Type 0 where
  pub forms : Formulas
  pub at_lines : IsAtLines k p forms
  pub point : HoldInFractions (lines_of forms)
  pub uses : List Use
  pub ends : ending (lines_of forms) (length k.variables) ≡ through uses
  pub trial : state ≡ option_map (state_of k p) (point_of (lines_of forms) (length k.variables) uses)

-- the path of an open condition leads there
abbrev pub OpenProblemsHold : Type 0
OpenProblemsHold = (k : Setting) (given shown : Formula) (path : List PathStep) (state : Option State)
    → IsInOrder k.control → IsTyped k given → IsTyped k shown
    → AllForms (IsProper (length k.variables)) given → AllForms (IsProper (length k.variables)) shown
    → decided k given shown ≡ open_at path state
    → There (problem_at k (first_problem k given shown) path) (HoldsAtPoint k state)
