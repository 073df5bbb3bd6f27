-- The condition that a search for certificates names when it ends with status 1, and what is so of it.
use Rattle.std.specs.Prelude.{◌≡◌, ◌⊎◌, ℕ, ◌+◌, List, ◌∷◌, ◌++◌, length, Option, IfSome}
use Rattle.st_form.specs.Condition.{Implication}
use Rattle.st_certificate.specs.Tree.{Tree}
use Rattle.elimination_laws.specs.declared.stage.WideStage.{WideStage}
use Rattle.elimination_laws.specs.declared.stage.WideStage.TheVariants as stages
use Rattle.farkas_check.specs.Problem.{Setting, first_problem}
use Rattle.farkas_check.specs.Valid.{There}
use Rattle.search_laws.specs.States.{State}
use Rattle.search_laws.specs.Walks.{PathStep}
use Rattle.search_laws.specs.Moves.{open_at, wide_at, decided}
use Rattle.search_laws.specs.Ends.{problem_at, IsWide}
use Rattle.search_laws.specs.Laws.{IsCounterexample}
use Rattle.open_points.specs.Points.{HoldsAtPoint}
use Rattle.temporal_goals.specs.Texts.{PlainStep}
use Rattle.spl_typer.specs.Programs.{Typed}
use Rattle.step_report.specs.declared.conditions.Reason.TheVariants.{Open, Wide}
use Rattle.step_report.specs.Conditions.{not_proved_text}
use Rattle.step_report.specs.Searches.{open_text, wide_text}
use Rattle.step_run.specs.Conditions.{setting_of, conditions_of}
use Rattle.step_run.specs.WellFormed.{AreFound, Reads}

-- condition n of these, counted from 1; all before it are decided valid
pub record IsNext (k : Setting) (conditions : List Implication) (n : ℕ) (c : Implication) : Type 0 where
  pub before : List Implication
  pub behind : List Implication
  pub are : conditions ≡ before ++ c ∷ behind
  pub number : n ≡ length before + 1
  pub trees : List Tree
  pub valid : AreFound k before trees

-- it is left open: the path leads to a problem of lines alone that hold at a point in fractions, and a state that is known is one
-- of a control state, in which what is given is true and what is shown is false
pub record IsLeftOpen (k : Setting) (c : Implication) (path : List PathStep) (state : Option State) : Type 0 where
  pub verdict : decided k c.given c.shown ≡ open_at path state
  pub leads : There (problem_at k (first_problem k c.given c.shown) path) (HoldsAtPoint k state)
  pub refutes : IfSome state (IsCounterexample k c.given c.shown)

-- the search gave up on it: the tree is too large, or the path leads to a problem of lines alone on which elimination gives up
pub record IsGivenUp (k : Setting) (c : Implication) (path : List PathStep) (stage : WideStage) : Type 0 where
  pub verdict : decided k c.given c.shown ≡ wide_at path stage
  pub leads : (stage ≡ stages.Tree) ⊎ There (problem_at k (first_problem k c.given c.shown) path) (IsWide k stage)

-- what the text tells of condition n
pub data Tells (p : Typed) (steps : List PlainStep) (n : ℕ) (c : Implication) : List ℕ → Type 0 where
  tells_open : (path : List PathStep) (state : Option State) → IsLeftOpen (setting_of p) c path state
      → Tells p steps n c (not_proved_text p.names steps n c.name Open ++ open_text p.names path state)
  tells_wide : (path : List PathStep) (stage : WideStage) → IsGivenUp (setting_of p) c path stage
      → Tells p steps n c (not_proved_text p.names steps n c.name Wide ++ wide_text p.names path stage)

-- two texts spell a program and a script, whose condition n is the first that isn't decided valid; the text tells of it
pub record FailsFirst (program proof : List ℕ) (n : ℕ) (text : List ℕ) : Type 0 where
  pub typed : Typed
  pub steps : List PlainStep
  pub reads : Reads program proof typed steps
  pub condition : Implication
  pub is_next : IsNext (setting_of typed) (conditions_of typed steps) n condition
  pub tells : Tells typed steps n condition text
