-- The first problem: with nothing decided, what the checker simplifies as a conjunction is what is posed.
use Rattle.std.proofs.Common.{◌≡◌, ℕ, zero, suc, Bool, true, false, List, [], ◌∷◌, map, length, replicate, refl, sym, ap, ◌∙◌, Option, Some, None, ℤ, pos}
use Rattle.std.specs.Prelude.{◌||◌, not, if◌then◌else◌, slice_get, slice_index_or, option_and_then, int_le}
use Rattle.std.specs.Option.{option_map}
use Rattle.st_linear.specs.Linear.{Linear}
use Rattle.st_linear.specs.Simple.{common_divisor, divided, complement, lowered}
use Rattle.st_form.specs.Formula.{Formula, Formulas, truth_value, row, equal, bool_var, at, negation, every, some, none, more, formulas, is_zero}
use Rattle.st_form.specs.Simple.{Decided, nothing, no_entries, is_constant, divides_constant, leading, simple_row, simple_equal, simple_apart, append, parts, gathered, closed, joined_parts, literal, simple, simples}
use Rattle.control_states.specs.declared.alternative.Alternative.{Alternative}
use Rattle.control_states.specs.Control.{ComponentFacts, ControlFacts, component_at}
use Rattle.control_states.specs.Place.{elsewhere, cut_by, cut_off, place_by, place_in}
use Rattle.farkas_check.specs.Problem.{Setting, decided_by, posed, first_problem}

-- WITH NOTHING DECIDED
no_decision : {A : Type 0} (n v : ℕ) → slice_index_or (replicate {A = Option A} n None) v None ≡ None
no_decision zero v = refl
no_decision (suc n) zero = refl
no_decision (suc n) (suc v) = no_decision n v

module _ (cs : List ComponentFacts) (n : ℕ) where
  abbrev undecided : List (Option Alternative)
  undecided = replicate n None

  not_by : (further : ℕ → Bool) (o : Option (ℕ × ℕ)) → ((c : ℕ) → further c ≡ false) → cut_by undecided further o ≡ false
  not_by further None h = refl
  not_by further (Some w) h = ap (λ d. elsewhere w.1 d || further w.0) (no_decision n w.0) ∙ h w.0

  not_cut : (m c : ℕ) → cut_off cs undecided m c ≡ false
  not_cut zero c = refl
  not_cut (suc m) c = not_by (cut_off cs undecided m) (component_at cs c).around (λ d. not_cut m d)

  no_place_in : (l c : ℕ) → place_in cs undecided l c ≡ None
  no_place_in l c = ap (λ b. place_by l b (slice_index_or undecided c None)) (not_cut (length cs) c) ∙ ap (place_by l false) (no_decision n c)

  no_place : (l : ℕ) (o : Option ℕ) → option_and_then (place_in cs undecided l) o ≡ None
  no_place l None = refl
  no_place l (Some c) = no_place_in l c

nothing_decided : (k : ControlFacts) (n m : ℕ) → decided_by k (replicate n None) (replicate m None) ≡ nothing
nothing_decided k n m = λ i. record { truths = λ v. no_decision m v i; places = λ l. no_place k.components n l (slice_get k.owners l) i }

-- SIMPLE FORMULAS
abbrev mutual
  -- no part of a conjunction, or of a disjunction, can be opened, and so inside
  Well : Formula → Type 0
  Well (every gs) = Parts true gs
  Well (some gs) = Parts false gs
  Well (truth_value b) = Unit {0}
  Well (row f) = Unit {0}
  Well (equal f) = Unit {0}
  Well (bool_var v) = Unit {0}
  Well (at l) = Unit {0}
  Well (negation f) = Unit {0}

  Parts : Bool → Formulas → Type 0
  Parts all none = Unit {0}
  Parts all (more g gs) = (parts all g ≡ Some (more g none)) × Well g × Parts all gs

abbrev Fit : Bool → Option Formulas → Type 0
Fit all None = Unit {0}
Fit all (Some gs) = Parts all gs

abbrev AreWell : Formulas → Type 0
AreWell none = Unit {0}
AreWell (more f fs) = Well f × AreWell fs

parts_append : (all : Bool) (fs gs : Formulas) → Parts all fs → Parts all gs → Parts all (append fs gs)
parts_append all none gs h k = k
parts_append all (more f fs) gs h k = (h.0, h.1, parts_append all fs gs h.2 k)

fit_append : (all : Bool) (fs : Formulas) (o : Option Formulas) → Parts all fs → Fit all o → Fit all (option_map (append fs) o)
fit_append all fs None h k = tt
fit_append all fs (Some gs) h k = parts_append all fs gs h k

fit_joined : (all : Bool) (o p : Option Formulas) → Fit all o → Fit all p → Fit all (option_and_then (λ gs. option_map (append gs) p) o)
fit_joined all None p h k = tt
fit_joined all (Some gs) p h k = fit_append all gs p h k

fit_parts : (all : Bool) (f : Formula) → Well f → Fit all (parts all f)
fit_parts true (truth_value true) h = tt
fit_parts true (truth_value false) h = tt
fit_parts false (truth_value true) h = tt
fit_parts false (truth_value false) h = tt
fit_parts true (every gs) h = h
fit_parts false (every gs) h = (refl, h, tt)
fit_parts true (some gs) h = (refl, h, tt)
fit_parts false (some gs) h = h
fit_parts all (row f) h = (refl, tt, tt)
fit_parts all (equal f) h = (refl, tt, tt)
fit_parts all (bool_var v) h = (refl, tt, tt)
fit_parts all (at l) h = (refl, tt, tt)
fit_parts all (negation f) h = (refl, tt, tt)

fit_gathered : (all : Bool) (fs : Formulas) → AreWell fs → Fit all (gathered all fs)
fit_gathered all none h = tt
fit_gathered all (more f fs) h = fit_joined all (parts all f) (gathered all fs) (fit_parts all f h.0) (fit_gathered all fs h.1)

well_closed : (all : Bool) (fs : Formulas) → Parts all fs → Well (closed all fs)
well_closed all none h = tt
well_closed all (more f none) h = h.1
well_closed true (more f (more g fs)) h = h
well_closed false (more f (more g fs)) h = h

well_joined : (all : Bool) (o : Option Formulas) → Fit all o → Well (joined_parts all o)
well_joined all None h = tt
well_joined all (Some fs) h = well_closed all fs h

well_row : (f : Linear) → Well (simple_row f)
well_row f = by_test (is_constant f)
  where
    by_test : (b : Bool) → Well (if b then truth_value (int_le (pos 0) f.constant) else row (divided (common_divisor f.entries) f))
    by_test true = tt
    by_test false = tt

well_equal : (f : Linear) → Well (simple_equal f)
well_equal f = by_test (is_constant f) (divides_constant f)
  where
    by_test : (b d : Bool) → Well (if b then truth_value (is_zero f.constant) else (if d then equal (leading (divided (common_divisor f.entries) f)) else truth_value false))
    by_test true d = tt
    by_test false true = tt
    by_test false false = tt

row_part : (f : Linear) → is_constant f ≡ false → parts false (simple_row f) ≡ Some (more (simple_row f) none)
row_part f e = by_test (is_constant f) e
  where
    form : Bool → Formula
    form b = if b then truth_value (int_le (pos 0) f.constant) else row (divided (common_divisor f.entries) f)

    by_test : (b : Bool) → b ≡ false → parts false (form b) ≡ Some (more (form b) none)
    by_test true q = absurd cc
    by_test false q = refl

mapped_entries : (g : ℕ × ℤ → ℕ × ℤ) (es : List (ℕ × ℤ)) → no_entries (map g es) ≡ no_entries es
mapped_entries g [] = refl
mapped_entries g (e ∷ es) = refl

well_apart : (f : Linear) → Well (simple_apart f)
well_apart f = by_test (is_constant f) (divides_constant f) refl
  where
    by_test : (b d : Bool) → is_constant f ≡ b → Well (if b then truth_value (not (is_zero f.constant)) else (if d then some (more (simple_row (lowered f)) (more (simple_row (complement f)) none)) else truth_value true))
    by_test true d e = tt
    by_test false true e = (row_part (lowered f) e, well_row (lowered f), (row_part (complement f) (mapped_entries _ f.entries ∙ e), well_row (complement f), tt))
    by_test false false e = tt

well_literal : (plus : Bool) (f : Formula) (o : Option Bool) → Well f → Well (literal plus f o)
well_literal true f None h = h
well_literal false f None h = tt
well_literal plus f (Some b) h = tt

mutual
  well_simple : (d : Decided) (f : Formula) (plus : Bool) → Well (simple d f plus)
  well_simple d (truth_value b) plus = tt
  well_simple d (row f) plus = well_row (if plus then f else complement f)
  well_simple d (equal f) true = well_equal f
  well_simple d (equal f) false = well_apart f
  well_simple d (bool_var v) plus = well_literal plus (bool_var v) (d.truths v) tt
  well_simple d (at l) plus = well_literal plus (at l) (d.places l) tt
  well_simple d (negation f) plus = well_simple d f (not plus)
  well_simple d (every fs) plus = well_joined plus (gathered plus (simples d fs plus)) (fit_gathered plus (simples d fs plus) (well_simples d fs plus))
  well_simple d (some fs) plus = well_joined (not plus) (gathered (not plus) (simples d fs plus)) (fit_gathered (not plus) (simples d fs plus) (well_simples d fs plus))

  well_simples : (d : Decided) (fs : Formulas) (plus : Bool) → AreWell (simples d fs plus)
  well_simples d none plus = tt
  well_simples d (more f fs) plus = (well_simple d f plus, well_simples d fs plus)

opened_again : (o : Option Formulas) → Fit true o → parts true (joined_parts true o) ≡ o
opened_again None h = refl
opened_again (Some none) h = refl
opened_again (Some (more f none)) h = h.0
opened_again (Some (more f (more g fs))) h = refl

-- THE FIRST PROBLEM
pub posed_first : (k : Setting) (given shown : Formula)
    → posed k.control (replicate (length k.control.components) None) (replicate (length k.variables) None) (formulas (given ∷ negation shown ∷ [])) ≡ first_problem k given shown
posed_first k given shown =
    let fs = formulas (given ∷ negation shown ∷ []) in
    ap (λ (o : Option Formulas). record { cases = replicate (length k.control.components) None; truths = replicate (length k.variables) None; conjuncts = o })
    (
    ap (λ d. gathered true (simples d fs true)) (nothing_decided k.control (length k.control.components) (length k.variables))
    ∙ sym (opened_again (gathered true (simples nothing fs true)) (fit_gathered true (simples nothing fs true) (well_simples nothing fs true)))
    )
