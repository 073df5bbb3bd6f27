-- How many cases and atoms there are.
use Rattle.std.proofs.Common.{◌≡◌, ◌≢◌, ℕ, zero, suc, ◌+◌, ◌*◌, ◌≤◌, Bool, true, false, List, [], ◌∷◌, ◌++◌, length, map, drop, refl, ap, ◌∙◌, arith, length-append, ℤ, pos, negsuc, ◌+ℤ◌}
use Rattle.std.specs.Prelude.{filter}
use Rattle.std.specs.Ordering.{int_eq}
use Rattle.std.proofs.lemmas.List.{length-map}
use Rattle.st_form.specs.Formula.{Formula, Formulas, none, more, formulas, equal, at, negation, atoms, atoms_of}
use Rattle.st_form.specs.Simple.{closed}
use Rattle.control_states.specs.Control.{ControlFacts}
use Rattle.equation_laws.specs.Equations.{PlainEquation}
use Rattle.equation_forms.specs.Formulas.{Terms, classes, whereabouts, choices, case_of, groups_of, formula_of}
use Rattle.equation_writer.specs.Sizes.{class_atoms, classes_atoms, case_count, atom_count}
use Rattle.equation_writer.specs.Sums.{with_class, with_classes}

-- a product with some factor
times-some : (n x : ℕ) → x ≤ suc n * x
times-some n x = omega arith

-- the atoms of a class that isn't 0
pub other-class : (ts : Terms) (k : ℤ) → k ≢ pos 0 → class_atoms ts k ≡ length (filter (λ t. int_eq t.1 k) ts)
other-class ts (pos zero) n = absurd (n refl)
other-class ts (pos (suc m)) n = refl
other-class ts (negsuc m) n = refl

-- fewer components have no more cases
pub count-grows : (k : ℕ) (gs : List Terms) → case_count (drop k gs) ≤ case_count gs
count-grows zero gs = omega arith
count-grows (suc k) [] = omega arith
count-grows (suc k) (ts ∷ gs) = omega (arith, count-grows k gs, times-some (length (classes ts)) (case_count gs))

pub atoms-grow : (k : ℕ) (gs : List Terms) → atom_count (drop k gs) ≤ atom_count gs
atoms-grow zero gs = omega arith
atoms-grow (suc k) [] = omega arith
atoms-grow (suc k) (ts ∷ gs) = omega (arith, atoms-grow k gs)

-- atoms of conjunctions and disjunctions
closed-atoms : (all : Bool) (fs : Formulas) → atoms (closed all fs) ≡ atoms_of fs
closed-atoms true none = refl
closed-atoms false none = refl
closed-atoms true (more f none) = omega arith
closed-atoms false (more f none) = omega arith
closed-atoms true (more f (more g fs)) = refl
closed-atoms false (more f (more g fs)) = refl

append-atoms : (fs gs : List Formula) → atoms_of (formulas (fs ++ gs)) ≡ atoms_of (formulas fs) + atoms_of (formulas gs)
append-atoms [] gs = omega arith
append-atoms (f ∷ fs) gs = omega (arith, append-atoms fs gs)

absence-atoms : (ts : Terms) → atoms_of (formulas (map (λ t. negation (at t.0)) ts)) ≡ length ts
absence-atoms [] = refl
absence-atoms (t ∷ ts) = omega (arith, absence-atoms ts)

presence-atoms : (ts : Terms) → atoms_of (formulas (map (λ t. at t.0) ts)) ≡ length ts
presence-atoms [] = refl
presence-atoms (t ∷ ts) = omega (arith, presence-atoms ts)

one-closed : (ts : Terms) → atoms_of (formulas (closed false (formulas (map (λ t. at t.0) ts)) ∷ [])) ≡ length ts
one-closed ts = omega (arith, closed-atoms false (formulas (map (λ t. at t.0) ts)), presence-atoms ts)

whereabouts-atoms : (ts : Terms) (k : ℤ) → atoms_of (formulas (whereabouts ts k)) ≡ class_atoms ts k
whereabouts-atoms ts (pos zero) = absence-atoms ts
whereabouts-atoms ts (pos (suc n)) = one-closed (filter (λ t. int_eq t.1 (pos (suc n))) ts)
whereabouts-atoms ts (negsuc n) = one-closed (filter (λ t. int_eq t.1 (negsuc n)) ts)

-- the atoms of cases, each with its equation
abbrev all-atoms : List (List Formula × ℤ) → ℕ
all-atoms [] = 0
all-atoms (x ∷ xs) = (atoms_of (formulas x.0) + 1) + all-atoms xs

all-append : (xs ys : List (List Formula × ℤ)) → all-atoms (xs ++ ys) ≡ all-atoms xs + all-atoms ys
all-append [] ys = omega arith
all-append (x ∷ xs) ys = omega (arith, all-append xs ys)

class-atoms : (ts : Terms) (k : ℤ) (xs : List (List Formula × ℤ)) → all-atoms (map (with_class ts k) xs) ≡ length xs * class_atoms ts k + all-atoms xs
class-atoms ts k [] = omega arith
class-atoms ts k (x ∷ xs) = omega (arith, class-atoms ts k xs, append-atoms (whereabouts ts k) x.0, whereabouts-atoms ts k)

classes-count : (ts : Terms) (ks : List ℤ) (xs : List (List Formula × ℤ)) → length (with_classes ts ks xs) ≡ length ks * length xs
classes-count ts [] xs = omega arith
classes-count ts (k ∷ ks) xs = omega (arith, length-append (map (with_class ts k) xs) (with_classes ts ks xs), length-map xs (with_class ts k), classes-count ts ks xs)

classes-all : (ts : Terms) (ks : List ℤ) (xs : List (List Formula × ℤ)) → all-atoms (with_classes ts ks xs) ≡ length xs * classes_atoms ts ks + length ks * all-atoms xs
classes-all ts [] xs = omega arith
classes-all ts (k ∷ ks) xs =
    omega (arith, all-append (map (with_class ts k) xs) (with_classes ts ks xs), class-atoms ts k xs, classes-all ts ks xs)

pub choices-count : (gs : List Terms) → length (choices gs) ≡ case_count gs
choices-count [] = refl
choices-count (ts ∷ gs) = classes-count ts (classes ts) (choices gs) ∙ ap (λ n. length (classes ts) * n) (choices-count gs)

choices-atoms : (gs : List Terms) → all-atoms (choices gs) ≡ atom_count gs
choices-atoms [] = refl
choices-atoms (ts ∷ gs) =
    classes-all ts (classes ts) (choices gs)
    ∙ ap (λ n. n * classes_atoms ts (classes ts) + length (classes ts) * all-atoms (choices gs)) (choices-count gs)
    ∙ ap (λ n. case_count gs * classes_atoms ts (classes ts) + length (classes ts) * n) (choices-atoms gs)

case-atoms : (e : PlainEquation) (x : List Formula × ℤ) → atoms (case_of e x) ≡ atoms_of (formulas x.0) + 1
case-atoms e x =
    closed-atoms true (formulas (x.0 ++ equal (record { constant = e.constant +ℤ x.1; entries = e.numbers }) ∷ []))
    ∙ append-atoms x.0 (equal (record { constant = e.constant +ℤ x.1; entries = e.numbers }) ∷ [])

cases-atoms : (e : PlainEquation) (xs : List (List Formula × ℤ)) → atoms_of (formulas (map (case_of e) xs)) ≡ all-atoms xs
cases-atoms e [] = refl
cases-atoms e (x ∷ xs) = omega (arith, case-atoms e x, cases-atoms e xs)

pub formula-atoms : (k : ControlFacts) (e : PlainEquation) → atoms (formula_of k e) ≡ atom_count (groups_of k e)
formula-atoms k e = closed-atoms false (formulas (map (case_of e) (choices (groups_of k e)))) ∙ cases-atoms e (choices (groups_of k e)) ∙ choices-atoms (groups_of k e)
