-- A linear equation between variables and locations as a formula.
--
-- The components at whose locations the equation has coefficients are gone through by cases. In a control state each component is
-- at one of its locations or at none of these, so it adds one of a few numbers: 0, or one of its locations' coefficients. These are
-- its classes. In each case the equation is one between variables alone.
use Rattle.std.specs.Prelude.{ℕ, zero, suc, ◌+◌, ◌^◌, Bool, true, false, ◌&&◌, ◌||◌, not, nat_lt, nat_le, ◌==◌, if◌then◌else◌, List, [], ◌∷◌, ◌++◌, length, map, filter, flat_map, slice_index_or, unsigned_abs, ℤ, pos, ◌+ℤ◌, Option, Some, None, IsTrue, ◌≡◌, ◌<◌, slice_get}
use Rattle.std.specs.List.{list_any}
use Rattle.std.specs.Ordering.{int_eq}
use Rattle.st_linear.specs.Linear.{Linear}
use Rattle.st_form.specs.Formula.{Formula, Formulas, equal, at, negation, formulas, atoms}
use Rattle.st_form.specs.Simple.{closed}
use Rattle.control_states.specs.Control.{ControlFacts}
use Rattle.equation_laws.specs.Equations.{PlainEquation}

abbrev pub Terms : Type 0
Terms = List (ℕ × ℤ)

-- the coefficients of a component's own locations
abbrev pub terms_of : List ℕ → ℕ → Terms → Terms
terms_of owners c ts = filter (λ t. c == slice_index_or owners t.0 0) ts

-- those of so many components, from c on, each that has any
abbrev pub with_terms : Terms → List Terms → List Terms
with_terms [] rest = rest
with_terms (t ∷ ts) rest = (t ∷ ts) ∷ rest

abbrev pub groups : List ℕ → Terms → ℕ → ℕ → List Terms
groups owners ts zero c = []
groups owners ts (suc m) c = with_terms (terms_of owners c ts) (groups owners ts m (c + 1))

-- the coefficients that aren't seen before, in order
abbrev pub fresh : List ℤ → Terms → List ℤ
fresh seen [] = []
fresh seen (t ∷ ts) = if list_any (λ k. int_eq k t.1) seen then fresh seen ts else t.1 ∷ fresh (seen ++ t.1 ∷ []) ts

-- a component's classes
abbrev pub classes : Terms → List ℤ
classes ts = pos 0 ∷ fresh (pos 0 ∷ []) ts

-- where control is in a class: at none of the locations, or at one with this coefficient
abbrev pub whereabouts : Terms → ℤ → List Formula
whereabouts ts (pos zero) = map (λ t. negation (at t.0)) ts
whereabouts ts k = closed false (formulas (map (λ t. at t.0) (filter (λ t. int_eq t.1 k) ts))) ∷ []

-- a class for each component, the first weighing most: where control is, and what it adds
abbrev pub choices : List Terms → List (List Formula × ℤ)
choices [] = ([], pos 0) ∷ []
choices (ts ∷ gs) = flat_map (λ k. map (λ x. (whereabouts ts k ++ x.0, k +ℤ x.1)) (choices gs)) (classes ts)

abbrev pub case_of : PlainEquation → List Formula × ℤ → Formula
case_of e x = closed true (formulas (x.0 ++ equal (record { constant = e.constant +ℤ x.1; entries = e.numbers }) ∷ []))

abbrev pub groups_of : ControlFacts → PlainEquation → List Terms
groups_of k e = groups k.owners e.places (length k.components) 0

abbrev pub formula_of : ControlFacts → PlainEquation → Formula
formula_of k e = closed false (formulas (map (case_of e) (choices (groups_of k e))))

-- the sizes that a written number may have
abbrev pub is_slight : ℤ → Bool
is_slight z = nat_le (unsigned_abs z) (2 ^ 30)

abbrev pub are_slight : Terms → Bool
are_slight [] = true
are_slight (t ∷ ts) = is_slight t.1 && are_slight ts

-- each case's equation has such numbers
abbrev pub cases_slight : PlainEquation → List (List Formula × ℤ) → Bool
cases_slight e [] = true
cases_slight e (x ∷ xs) = (is_slight (e.constant +ℤ x.1) && are_slight e.numbers) && cases_slight e xs

-- at most 64 cases and 1,024 atoms, and no number past 2^30
abbrev pub is_short : ControlFacts → PlainEquation → Bool
is_short k e =
    nat_le (length (choices (groups_of k e))) 64
    && (nat_le (atoms (formula_of k e)) 1024 && cases_slight e (choices (groups_of k e)))

-- the formula, if it is within these limits
abbrev pub short_formula : ControlFacts → PlainEquation → Option Formula
short_formula k e = if is_short k e then Some (formula_of k e) else None

-- each location has an owner among the components
abbrev pub AreOwned : ControlFacts → Terms → Type 0
AreOwned k [] = Unit {0}
AreOwned k (t ∷ ts) = (c : ℕ) × (slice_get k.owners t.0 ≡ Some c) × (c < length k.components) × AreOwned k ts
