-- What each move at a problem says of the problem.
use Rattle.std.proofs.Common.{◌≡◌, ℕ, List, length, refl, Option, Some, None, ◌⊎◌, inl, inr, ℤ}
use Rattle.std.specs.Option.{option_map}
use Rattle.st_form.specs.Formula.{Formulas}
use Rattle.st_certificate.specs.Tree.{Step, by_case, by_truth, by_split, Tree, impossible, linear}
use Rattle.farkas_check.specs.Problem.{Setting, Problem, divided_into, lines_of}
use Rattle.elimination_laws.specs.Stages.{Use, Ending, through, contradiction, too_wide, ending}
use Rattle.elimination_laws.specs.Points.{point_of}
use Rattle.search_laws.specs.States.{State, state_of}
use Rattle.search_laws.specs.Steady.{IsNoCut}
use Rattle.search_laws.specs.Walks.{Failure, left_open, given_up, Move, closes, divides, fails}
use Rattle.search_laws.specs.Moves.{first_place_of, first_truth_of, component_for, divided, by_component, by_ending, by_disjunction, by_variable, by_place, by_conjuncts, move_of}

-- a leaf by elimination
pub record IsContradicted (k : Setting) (p : Problem) (t : Tree) : Type 0 where
  pub conjuncts : Formulas
  pub picks : List (ℕ × ℤ)
  pub are : p.conjuncts ≡ Some conjuncts
  pub ends : ending (lines_of conjuncts) (length k.variables) ≡ contradiction picks
  pub leaf : t ≡ linear picks

abbrev pub IsClosed : Setting → Problem → Tree → Type 0
IsClosed k p t = ((p.conjuncts ≡ None) × (t ≡ impossible)) ⊎ IsContradicted k p t

pub record IsDivided (k : Setting) (p : Problem) (s : Step) (ps : List Problem) : Type 0 where
  pub conjuncts : Formulas
  pub are : p.conjuncts ≡ Some conjuncts
  pub division : divided_into k p conjuncts s ≡ Some ps
  pub step : IsNoCut s

-- a problem of rows and equations alone, whose lines have a trial point
pub record IsLeft (k : Setting) (p : Problem) (state : State) : Type 0 where
  pub conjuncts : Formulas
  pub are : p.conjuncts ≡ Some conjuncts
  pub no_place : first_place_of conjuncts ≡ None
  pub no_truth : first_truth_of conjuncts ≡ None
  pub no_disjunction : divided_into k p conjuncts (by_split 0) ≡ None
  pub uses : List Use
  pub ends : ending (lines_of conjuncts) (length k.variables) ≡ through uses
  pub point : List ℤ
  pub pointed : point_of (lines_of conjuncts) (length k.variables) uses ≡ Some point
  pub shown : state ≡ state_of k p point

abbrev pub IsFailed : Setting → Problem → Failure → Type 0
IsFailed k p (left_open None) = Unit {0}
IsFailed k p (left_open (Some state)) = IsLeft k p state
IsFailed k p (given_up s) = Unit {0}

abbrev pub Describes : Setting → Problem → Move Problem → Type 0
Describes k p (closes t) = IsClosed k p t
Describes k p (divides s ps) = IsDivided k p s ps
Describes k p (fails e) = IsFailed k p e

divided-describes : (k : Setting) (p : Problem) (fs : Formulas) (s : Step) → p.conjuncts ≡ Some fs → IsNoCut s → (o : Option (List Problem)) → divided_into k p fs s ≡ o → Describes k p (divided s o)
divided-describes k p fs s e c None h = tt
divided-describes k p fs s e c (Some ps) h = record { conjuncts = fs; are = e; division = h; step = c }

component-describes : (k : Setting) (p : Problem) (fs : Formulas) → p.conjuncts ≡ Some fs → (o : Option ℕ) → Describes k p (by_component k p fs o)
component-describes k p fs e None = tt
component-describes k p fs e (Some c) = divided-describes k p fs (by_case c) e tt (divided_into k p fs (by_case c)) refl

ending-describes : (k : Setting) (p : Problem) (fs : Formulas) → p.conjuncts ≡ Some fs → first_place_of fs ≡ None → first_truth_of fs ≡ None → divided_into k p fs (by_split 0) ≡ None → (e : Ending) → ending (lines_of fs) (length k.variables) ≡ e → Describes k p (by_ending k p (lines_of fs) e)
ending-describes k p fs e l v d (contradiction picks) h = inr (record { conjuncts = fs; picks = picks; are = e; ends = h; leaf = refl })
ending-describes k p fs e l v d (too_wide s) h = tt
ending-describes k p fs e l v d (through us) h = by_point (point_of (lines_of fs) (length k.variables) us) refl
  where
    by_point : (o : Option (List ℤ)) → point_of (lines_of fs) (length k.variables) us ≡ o → IsFailed k p (left_open (option_map (state_of k p) o))
    by_point None i = tt
    by_point (Some point) i = record {
      conjuncts = fs;
      are = e;
      no_place = l;
      no_truth = v;
      no_disjunction = d;
      uses = us;
      ends = h;
      point = point;
      pointed = i;
      shown = refl;
    }

disjunction-describes : (k : Setting) (p : Problem) (fs : Formulas) → p.conjuncts ≡ Some fs → first_place_of fs ≡ None → first_truth_of fs ≡ None → (o : Option (List Problem)) → divided_into k p fs (by_split 0) ≡ o → Describes k p (by_disjunction k p fs o)
disjunction-describes k p fs e l v (Some ps) h = record { conjuncts = fs; are = e; division = h; step = tt }
disjunction-describes k p fs e l v None h = ending-describes k p fs e l v h (ending (lines_of fs) (length k.variables)) refl

variable-describes : (k : Setting) (p : Problem) (fs : Formulas) → p.conjuncts ≡ Some fs → first_place_of fs ≡ None → (o : Option ℕ) → first_truth_of fs ≡ o → Describes k p (by_variable k p fs o)
variable-describes k p fs e l (Some v) h = divided-describes k p fs (by_truth v) e tt (divided_into k p fs (by_truth v)) refl
variable-describes k p fs e l None h = disjunction-describes k p fs e l h (divided_into k p fs (by_split 0)) refl

place-describes : (k : Setting) (p : Problem) (fs : Formulas) → p.conjuncts ≡ Some fs → (o : Option ℕ) → first_place_of fs ≡ o → Describes k p (by_place k p fs o)
place-describes k p fs e (Some l) h = component-describes k p fs e (component_for k.control p.cases l)
place-describes k p fs e None h = variable-describes k p fs e h (first_truth_of fs) refl

conjuncts-describe : (k : Setting) (p : Problem) (o : Option Formulas) → p.conjuncts ≡ o → Describes k p (by_conjuncts k p o)
conjuncts-describe k p None e = inl (e, refl)
conjuncts-describe k p (Some fs) e = place-describes k p fs e (first_place_of fs) refl

-- a move is as its problem asks
pub describes : (k : Setting) (p : Problem) → Describes k p (move_of k p)
describes k p = conjuncts-describe k p p.conjuncts refl
