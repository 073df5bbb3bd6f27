-- Conjuncts as simplification leaves them. Where no literal of such a conjunct is decided, simplifying it again changes
-- nothing, so a problem can be grown by simplifying those conjuncts alone that have the decided literal.
use Rattle.std.specs.Prelude.{◌≡◌, Bool, true, false, List, [], ◌∷◌, Option, Some, None}
use Rattle.st_linear.specs.Linear.{Linear, AreEntries}
use Rattle.st_linear.specs.Simple.{common_divisor}
use Rattle.st_form.specs.Formula.{Formula, Formulas, truth_value, row, equal, bool_var, at, negation, every, some, none, more}
use Rattle.st_form.specs.Simple.{Decided, is_constant, leads_negative, simple}
use Rattle.st_certificate.specs.Tree.{Step, by_case, by_truth, by_split, by_cut}
use Rattle.farkas_check.specs.Problem.{Setting, Problem, divided_into, first_problem}
use Rattle.farkas_check.specs.Limits.{IsLiteral}
pub use Rattle.st_form.specs.Forms.{HasEntries}
use Rattle.search_laws.specs.Forms.{AllForms}
use Rattle.search_laws.specs.Ends.{AllLiterals}

-- a form with a variable, whose coefficients have no common divisor
pub record IsReduced (f : Linear) : Type 0 where
  pub entries : AreEntries f.entries
  pub varies : is_constant f ≡ false
  pub divisor : common_divisor f.entries ≡ 1

abbrev pub HaveTwo : Formulas → Type 0
HaveTwo none = ⊥
HaveTwo (more f none) = ⊥
HaveTwo (more f (more g fs)) = Unit {0}

abbrev mutual
  -- a simplified part of a conjunction, or of a disjunction
  pub IsSteady : Formula → Bool → Type 0
  IsSteady (truth_value b) all = ⊥
  IsSteady (row f) all = IsReduced f
  IsSteady (equal f) all = IsReduced f × (leads_negative f.entries ≡ false)
  IsSteady (bool_var v) all = Unit {0}
  IsSteady (at l) all = Unit {0}
  IsSteady (negation f) all = IsLiteral f
  IsSteady (every fs) true = ⊥
  IsSteady (every fs) false = AreSteady fs true × HaveTwo fs
  IsSteady (some fs) true = AreSteady fs false × HaveTwo fs
  IsSteady (some fs) false = ⊥

  pub AreSteady : Formulas → Bool → Type 0
  AreSteady none all = Unit {0}
  AreSteady (more f fs) all = IsSteady f all × AreSteady fs all

abbrev pub IfSteady : Bool → Option Formulas → Type 0
IfSteady all None = Unit {0}
IfSteady all (Some fs) = AreSteady fs all

-- no literal of it is decided
abbrev pub IsUntouched : Decided → Formula → Type 0
IsUntouched d f = AllLiterals (λ l. d.places l ≡ None) (λ v. d.truths v ≡ None) f

abbrev pub SteadyConjunctsStay : Type 0
SteadyConjunctsStay = (d : Decided) (f : Formula) → IsSteady f true → IsUntouched d f → simple d f true ≡ f

abbrev pub FirstConjunctsAreSteady : Type 0
FirstConjunctsAreSteady = (k : Setting) (given shown : Formula) → AllForms HasEntries given → AllForms HasEntries shown
    → IfSteady true (first_problem k given shown).conjuncts

-- a step of the search, which makes no cuts
abbrev pub IsNoCut : Step → Type 0
IsNoCut (by_cut f) = ⊥
IsNoCut (by_case c) = Unit {0}
IsNoCut (by_truth v) = Unit {0}
IsNoCut (by_split i) = Unit {0}

abbrev pub AllSteady : List Problem → Type 0
AllSteady [] = Unit {0}
AllSteady (p ∷ ps) = IfSteady true p.conjuncts × AllSteady ps

abbrev pub DivisionsKeepSteady : Type 0
DivisionsKeepSteady = (k : Setting) (p : Problem) (fs : Formulas) (s : Step) (ps : List Problem) → IsNoCut s → AreSteady fs true
    → divided_into k p fs s ≡ Some ps → AllSteady ps
