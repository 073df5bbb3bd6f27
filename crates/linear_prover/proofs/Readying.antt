-- What is asked of conjuncts is so of a condition's, and stays so through each division of the search.
use Rattle.std.proofs.Common.{◌≡◌, ℕ, Bool, true, false, List, [], ◌∷◌, subst, Option, Some, None}
use Rattle.st_linear.specs.Linear.{Linear}
use Rattle.st_form.specs.Formula.{Formula, Formulas, truth_value, row, equal, bool_var, at, negation, every, some, none, more}
use Rattle.st_form.specs.Simple.{nothing}
use Rattle.st_certificate.specs.Tree.{Step, by_case, by_truth, by_split, by_cut}
use Rattle.farkas_check.specs.Problem.{Setting, Problem, divided_into, first_problem}
use Rattle.farkas_check.specs.Limits.{IsNarrow, AreSettled, AreFit, AllFit, DivisionFits}
use Rattle.farkas_check.proofs.Bounds.{fit-first, fit-case, fit-truth, fit-split}
use Rattle.search_laws.specs.Forms.{AllForms, AllFormsOf, IsProper}
use Rattle.search_laws.specs.Steady.{IsSteady, AreSteady, IfSteady, HasEntries, IsNoCut, AllSteady}
use Rattle.search_laws.proofs.Walking.{AllOf}
use Rattle.search_laws.proofs.Shapes.{IsPart, AreParts, IfParts, IsShaped, parts-forms, first-shaped}
use Rattle.search_laws.proofs.Finding.{proper-keeps, division-shaped}
use Rattle.search_laws.proofs.Steadying.{first-steady, division-steady}
use Rattle.linear_prover.specs.Ready.{AreReady, IfReady, AllReady}
use Rattle.search_laws.specs.Searchable.{IsBelow}

mutual
  -- a simplified conjunct has the shape of one
  part-from : (Q : Linear → Type 0) (all : Bool) (f : Formula) → IsSteady f all → AllForms Q f → IsPart Q f all
  part-from Q all (truth_value b) s h = absurd s
  part-from Q all (row f) s h = h
  part-from Q all (equal f) s h = h
  part-from Q all (bool_var v) s h = tt
  part-from Q all (at l) s h = tt
  part-from Q all (negation f) s h = s
  part-from Q true (every fs) s h = absurd s
  part-from Q false (every fs) s h = parts-from Q true fs s.0 h
  part-from Q true (some fs) s h = parts-from Q false fs s.0 h
  part-from Q false (some fs) s h = absurd s

  pub parts-from : (Q : Linear → Type 0) (all : Bool) (fs : Formulas) → AreSteady fs all → AllFormsOf Q fs → AreParts Q fs all
  parts-from Q all none s h = tt
  parts-from Q all (more f fs) s h = (part-from Q all f s.0 h.0, parts-from Q all fs s.1 h.1)

ready-from : (n : ℕ) (o : Option Formulas) → AreFit o → IfParts (IsProper n) true o → IfSteady true o → IfReady n o
ready-from n None a b c = tt
ready-from n (Some fs) a b c = record { settled = a; proper = parts-forms (IsProper n) true fs b; steady = c }

all-ready : (n : ℕ) (ps : List Problem) → AllFit ps → AllOf (IsShaped (IsProper n)) ps → AllSteady ps → AllReady n ps
all-ready n [] a b c = tt
all-ready n (p ∷ ps) a b c = (ready-from n p.conjuncts a.0 b.0 c.0, all-ready n ps a.1 b.1 c.1)

division-fits : (k : Setting) (p : Problem) (fs : Formulas) (s : Step) → IsNoCut s → AreSettled fs → DivisionFits (divided_into k p fs s)
division-fits k p fs (by_case c) n h = fit-case k.control p fs c h
division-fits k p fs (by_truth v) n h = fit-truth k.control k.variables p fs v h
division-fits k p fs (by_split i) n h = fit-split p fs i h
division-fits k p fs (by_cut f) n h = absurd n

-- each problem of a division is ready
pub division-ready : (n : ℕ) (k : Setting) (p : Problem) (fs : Formulas) (s : Step) (ps : List Problem) → IsNoCut s → AreReady n fs → divided_into k p fs s ≡ Some ps → AllReady n ps
division-ready n k p fs s ps c r e =
    let parts = parts-from (IsProper n) true fs r.steady r.proper in
    all-ready n ps (subst DivisionFits e (division-fits k p fs s c r.settled)) (division-shaped (IsProper n) (proper-keeps n) k p fs s ps c parts e) (division-steady k p fs s ps c r.steady e)

mutual
  proper-form : (n : ℕ) (f : Formula) → AllForms HasEntries f → AllForms (IsBelow n) f → AllForms (IsProper n) f
  proper-form n (truth_value b) h k = tt
  proper-form n (row f) h k = record { entries = h; below = k }
  proper-form n (equal f) h k = record { entries = h; below = k }
  proper-form n (bool_var v) h k = tt
  proper-form n (at l) h k = tt
  proper-form n (negation f) h k = proper-form n f h k
  proper-form n (every fs) h k = proper-forms n fs h k
  proper-form n (some fs) h k = proper-forms n fs h k

  proper-forms : (n : ℕ) (fs : Formulas) → AllFormsOf HasEntries fs → AllFormsOf (IsBelow n) fs → AllFormsOf (IsProper n) fs
  proper-forms n none h k = tt
  proper-forms n (more f fs) h k = (proper-form n f h.0 k.0, proper-forms n fs h.1 k.1)

-- the forms of a condition
pub proper : (n : ℕ) (f : Formula) → AllForms HasEntries f → AllForms (IsBelow n) f → AllForms (IsProper n) f
proper = proper-form

-- a condition's problem is ready
pub first-ready : (n : ℕ) (k : Setting) (given shown : Formula) → IsNarrow given → IsNarrow shown → AllForms HasEntries given → AllForms HasEntries shown → AllForms (IsBelow n) given → AllForms (IsBelow n) shown
    → IfReady n (first_problem k given shown).conjuncts
first-ready n k given shown a b c d e f =
    ready-from n (first_problem k given shown).conjuncts (fit-first nothing given shown a b) (first-shaped (IsProper n) (proper-keeps n) k given shown (proper-form n given c e) (proper-form n shown d f))
    (first-steady k given shown c d)
