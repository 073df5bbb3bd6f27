-- What fits the types of a program's variables is within the bounds of a system.
use Rattle.std.proofs.Common.{◌≡◌, ℕ, zero, suc, ◌<◌, ◌≤◌, Bool, List, [], ◌∷◌, map, ℤ, Some, refl, ap, ◌∙◌, arith}
use Rattle.std.specs.Prelude.{slice_get, unsigned_abs}
use Rattle.std.specs.Option.{option_map}
use Rattle.st_linear.specs.Linear.{Linear}
use Rattle.st_form.specs.Formula.{Formula, Formulas, truth_value, row, equal, bool_var, at, negation, every, some, none, more, formulas}
use Rattle.st_form.specs.Simple.{append, opened}
use Rattle.st_form.specs.declared.variables.Variable.{Variable}
use Rattle.st_program.specs.Types.{type_of, EntriesFit, LinearFits, FormulaFits, FormulasFit, MayChange}
use Rattle.transition_system.specs.Bounds.{EntriesWithin, LinearWithin, FormulaWithin, FormulasWithin}
use Rattle.list_laws.specs.Each.{Each}

abbrev pub types : List Variable → List Bool
types vs = map (λ v. v.truth) vs

pub type_there : (vs : List Variable) (v : ℕ) → slice_get (types vs) v ≡ type_of vs v
type_there [] v = refl
type_there (x ∷ xs) zero = refl
type_there (x ∷ xs) (suc v) = type_there xs v

pub changed_type : (vs : List Variable) (v : ℕ) (b : Bool) → MayChange vs v b → slice_get (types vs) v ≡ Some b
changed_type vs v b h = type_there vs v ∙ ap (option_map (λ x. x.truth)) h

entries_within : (vs : List Variable) (low high : ℕ) → low ≤ high → (es : List (ℕ × ℤ)) → EntriesFit vs low es → EntriesWithin (types vs) high es
entries_within vs low high le [] h = tt
entries_within vs low high le (e ∷ es) h =
    (type_there vs e.0 ∙ h.0, (let q : unsigned_abs e.1 < low = h.1 in omega arith), entries_within vs low high le es h.2)

pub linear_within : (vs : List Variable) (low high : ℕ) → low ≤ high → (f : Linear) → LinearFits vs low f → LinearWithin (types vs) high f
linear_within vs low high le f h = record {
  rising = h.rising;
  constant = let q : unsigned_abs f.constant < low = h.constant in omega arith;
  entries = entries_within vs low high le f.entries h.entries;
}

module _ (vs : List Variable) (locations low high : ℕ) (le : low ≤ high) where
  mutual
    pub formula_within : (f : Formula) → FormulaFits vs low f → FormulaWithin (types vs) locations high f
    formula_within (truth_value b) h = tt
    formula_within (row f) h = linear_within vs low high le f h
    formula_within (equal f) h = linear_within vs low high le f h
    formula_within (bool_var v) h = type_there vs v ∙ h
    formula_within (at l) h = absurd h
    formula_within (negation f) h = formula_within f h
    formula_within (every fs) h = formulas_within fs h
    formula_within (some fs) h = formulas_within fs h

    formulas_within : (fs : Formulas) → FormulasFit vs low fs → FormulasWithin (types vs) locations high fs
    formulas_within none h = tt
    formulas_within (more f fs) h = (formula_within f h.0, formulas_within fs h.1)

-- the initial form
pub append_within : (truths : List Bool) (locations bound : ℕ) (fs gs : Formulas) → FormulasWithin truths locations bound fs → FormulasWithin truths locations bound gs → FormulasWithin truths locations bound (append fs gs)
append_within truths locations bound none gs h k = k
append_within truths locations bound (more f fs) gs h k = (h.0, append_within truths locations bound fs gs h.1 k)

pub opened_within : (truths : List Bool) (locations bound : ℕ) (f : Formula) → FormulaWithin truths locations bound f → FormulasWithin truths locations bound (opened f)
opened_within truths locations bound (every fs) h = h
opened_within truths locations bound (truth_value b) h = (h, tt)
opened_within truths locations bound (row f) h = (h, tt)
opened_within truths locations bound (equal f) h = (h, tt)
opened_within truths locations bound (bool_var v) h = (h, tt)
opened_within truths locations bound (at l) h = (h, tt)
opened_within truths locations bound (negation f) h = (h, tt)
opened_within truths locations bound (some fs) h = (h, tt)

pub located_within : (truths : List Bool) (locations bound : ℕ) (ls : List ℕ) → Each (λ l. l < locations) ls → FormulasWithin truths locations bound (formulas (map (λ l. at l) ls))
located_within truths locations bound [] h = tt
located_within truths locations bound (l ∷ ls) h = (h.0, located_within truths locations bound ls h.1)

pub listed_within : (truths : List Bool) (locations bound : ℕ) (fs : List Formula) → Each (FormulaWithin truths locations bound) fs → FormulasWithin truths locations bound (formulas fs)
listed_within truths locations bound [] h = tt
listed_within truths locations bound (f ∷ fs) h = (h.0, listed_within truths locations bound fs h.1)
