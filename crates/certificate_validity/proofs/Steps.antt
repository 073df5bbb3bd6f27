-- Steps: the rules divide a problem exactly as the checker does.
use Rattle.std.proofs.Common.{◌≡◌, ℕ, zero, suc, ◌-◌, ◌<◌, Bool, true, false, cond, List, [], ◌∷◌, ◌++◌, map, filter, length, inl, inr, refl, sym, ap, subst, ◌∙◌, Option, Some, None, ℤ, arith}
use Rattle.std.specs.Prelude.{◌⊎◌, ◌&&◌, ◌==◌, if◌then◌else◌, nat_lt, not, slice_get, slice_set, unwrap_or, IfSome}
use Rattle.std.specs.Option.{option_map}
use Rattle.std.proofs.lemmas.Bool.Decides.{nat_tests}
use Rattle.std.proofs.lemmas.Option.{get_or_from_slice_get, slice_get-get_or, slice_get_within, unwrap_or-slice_get, same_Some}
use Rattle.list_laws.specs.Each.{Each}
use Rattle.basic_laws.proofs.Numbers.{test_same, same_test}
use Rattle.st_linear.specs.Linear.{Linear}
use Rattle.st_form.specs.Formula.{Formula, Formulas, truth_value, row, equal, bool_var, at, negation, every, some, none, more, formulas}
use Rattle.st_form.specs.Simple.{append, opened}
use Rattle.st_form.specs.declared.variables.Variable.{Variable}
use Rattle.control_states.specs.declared.alternative.Alternative.{Alternative}
use Rattle.control_states.specs.declared.alternative.Alternative.TheVariants.{Location, Inside}
use Rattle.control_states.specs.Control.{ComponentFacts, ControlFacts, component_at, no_component}
use Rattle.st_certificate.specs.Tree.{Step, by_case, by_truth, by_split, by_cut}
use Rattle.farkas_check.specs.Problem.{Setting, Problem, posed, is_free, is_within, known_active, may_case, case_problems, case_division, has_truth, has_number, may_truth, truth_division, in_place, disjuncts_of, split_by, split_from, split_problems, split_division, are_integers, cut_division, divided_into}
use Rattle.certificate_validity.specs.Validity.{is_disjunction, is_boolean, Divides, by_places, by_values, by_disjuncts, by_sides}
use Rattle.certificate_validity.proofs.Listed.{listed, formulas_listed, append_again}

both : (a b : Bool) → (a && b) ≡ true → (a ≡ true) × (b ≡ true)
both true true e = (refl, refl)
both true false e = absurd cc
both false b e = absurd cc

join : (a b : Bool) → a ≡ true → b ≡ true → (a && b) ≡ true
join a b p q = rw (p, q) refl

-- where a test is passed there is an answer, and this one
given : {A : Type 0} (b : Bool) (x y : A) → (if b then Some x else None) ≡ Some y → (b ≡ true) × (x ≡ y)
given true x y e = (refl, same_Some x y e)
given false x y e = absurd cc

gives : {A : Type 0} (b : Bool) (x y : A) → b ≡ true → x ≡ y → (if b then Some x else None) ≡ Some y
gives b x y t e = rw t (ap Some e)

free_is : {A : Type 0} (o : Option (Option A)) → is_free o ≡ true → o ≡ Some None
free_is None e = absurd cc
free_is (Some None) e = refl
free_is (Some (Some a)) e = absurd cc

-- PLACES
within_is : (n : ℕ) (o : Option (Option Alternative)) → is_within n (unwrap_or o None) ≡ true → o ≡ Some (Some (Inside n))
within_is n None e = absurd cc
within_is n (Some None) e = absurd cc
within_is n (Some (Some (Location l))) e = absurd cc
within_is n (Some (Some (Inside q))) e = ap (λ m. Some (Some (Inside m))) (test_same q n e)

abbrev IsActive : List (Option Alternative) → Option (ℕ × ℕ) → Type 0
IsActive cases o = IfSome o (λ w. slice_get cases w.0 ≡ Some (Some (Inside w.1)))

known_is : (cases : List (Option Alternative)) (o : Option (ℕ × ℕ)) → known_active cases o ≡ true → IsActive cases o
known_is cases None e = tt
known_is cases (Some w) e = within_is w.1 (slice_get cases w.0) (ap (is_within w.1) (unwrap_or-slice_get cases w.0 None) ∙ e)

known_of : (cases : List (Option Alternative)) (o : Option (ℕ × ℕ)) → IsActive cases o → known_active cases o ≡ true
known_of cases None h = refl
known_of cases (Some w) h = ap (is_within w.1) (get_or_from_slice_get cases w.0 (Some (Inside w.1)) None h) ∙ same_test w.1

same_cases : (k : ControlFacts) (p : Problem) (fs : Formulas) (c : ℕ) (places : List Alternative) → case_problems k p fs c places ≡ map (λ a. posed k (slice_set p.cases c (Some a)) p.truths fs) places
same_cases k p fs c [] = refl
same_cases k p fs c (a ∷ places) = ap (λ ps. posed k (slice_set p.cases c (Some a)) p.truths fs ∷ ps) (same_cases k p fs c places)

is_less : (m n : ℕ) → m < n → nat_lt m n ≡ true
is_less m n h = grind (arith, nat_tests, h)

less_is : (m n : ℕ) → nat_lt m n ≡ true → m < n
less_is m n h = grind (arith, nat_tests, h)

case_of : (k : Setting) (p : Problem) (fs : List Formula) (c : ℕ) (x : ComponentFacts) → slice_get k.control.components c ≡ Some x → slice_get p.cases c ≡ Some None → IsActive p.cases x.around
    → case_division k.control p (formulas fs) c ≡ Some (map (λ a. posed k.control (slice_set p.cases c (Some a)) p.truths (formulas fs)) x.alternatives)
case_of k p fs c x there free active =
    let is : component_at k.control.components c ≡ x = get_or_from_slice_get k.control.components c x no_component there in
    gives (may_case k.control p.cases c) _ _
    (
    join _ _ (is_less c (length k.control.components) (slice_get_within k.control.components c x there))
    (join _ _ (ap is_free free) (ap (λ y. known_active p.cases y.around) is ∙ known_of p.cases x.around active))
    )
    (same_cases k.control p (formulas fs) c (component_at k.control.components c).alternatives ∙ ap (λ y. map (λ a. posed k.control (slice_set p.cases c (Some a)) p.truths (formulas fs)) y.alternatives) is)

case_is : (k : Setting) (p : Problem) (fs : List Formula) (c : ℕ) (ps : List Problem) → case_division k.control p (formulas fs) c ≡ Some ps → Divides k p fs (by_case c) ps
case_is k p fs c ps e =
    let x = component_at k.control.components c in
    let g = given (may_case k.control p.cases c) _ ps e in
    let l = both _ _ g.0 in
    let r = both _ _ l.1 in
    subst (Divides k p fs (by_case c)) (sym (same_cases k.control p (formulas fs) c x.alternatives) ∙ g.1)
    (
    by_places (slice_get-get_or k.control.components c no_component (less_is c (length k.control.components) l.0)) (free_is (slice_get p.cases c) r.0)
    (known_is p.cases x.around r.1)
    )

-- VALUES
boolean_is : (o : Option Variable) → has_truth o ≡ true → option_map (λ x. x.truth) o ≡ Some true
boolean_is None e = absurd cc
boolean_is (Some x) e = ap Some e

boolean_of : (o : Option Variable) → option_map (λ x. x.truth) o ≡ Some true → has_truth o ≡ true
boolean_of None e = absurd cc
boolean_of (Some x) e = same_Some x.truth true e

value_of : (k : Setting) (p : Problem) (fs : List Formula) (v : ℕ) → is_boolean k v ≡ Some true → slice_get p.truths v ≡ Some None
    → truth_division k.control k.variables p (formulas fs) v ≡ Some (map (λ b. posed k.control p.cases (slice_set p.truths v (Some b)) (formulas fs)) (true ∷ false ∷ []))
value_of k p fs v kind free = gives (may_truth k.variables p.truths v) _ _ (join _ _ (boolean_of (slice_get k.variables v) kind) (ap is_free free)) refl

value_is : (k : Setting) (p : Problem) (fs : List Formula) (v : ℕ) (ps : List Problem) → truth_division k.control k.variables p (formulas fs) v ≡ Some ps → Divides k p fs (by_truth v) ps
value_is k p fs v ps e =
    let g = given (may_truth k.variables p.truths v) _ ps e in
    let l = both _ _ g.0 in
    subst (Divides k p fs (by_truth v)) g.1 (by_values (boolean_is (slice_get k.variables v) l.0) (free_is (slice_get p.truths v) l.1))

-- SIDES
negated_is : (b : Bool) → not b ≡ true → b ≡ false
negated_is true e = absurd cc
negated_is false e = refl

integer_is : (o : Option Variable) → has_number o ≡ true → option_map (λ x. x.truth) o ≡ Some false
integer_is None e = absurd cc
integer_is (Some x) e = ap Some (negated_is x.truth e)

integer_of : (o : Option Variable) → option_map (λ x. x.truth) o ≡ Some false → has_number o ≡ true
integer_of None e = absurd cc
integer_of (Some x) e = ap not (same_Some x.truth false e)

integers_are : (k : Setting) (es : List (ℕ × ℤ)) → are_integers k.variables es ≡ true → Each (λ e. is_boolean k e.0 ≡ Some false) es
integers_are k [] h = tt
integers_are k (e ∷ es) h = let l = both _ _ h in (integer_is (slice_get k.variables e.0) l.0, integers_are k es l.1)

integers_of : (k : Setting) (es : List (ℕ × ℤ)) → Each (λ e. is_boolean k e.0 ≡ Some false) es → are_integers k.variables es ≡ true
integers_of k [] h = refl
integers_of k (e ∷ es) h = join _ _ (integer_of (slice_get k.variables e.0) h.0) (integers_of k es h.1)

cut_is : (k : Setting) (p : Problem) (fs : List Formula) (f : Linear) (ps : List Problem) → cut_division k.variables p (formulas fs) f ≡ Some ps → Divides k p fs (by_cut f) ps
cut_is k p fs f ps e =
    let g = given (are_integers k.variables f.entries) _ ps e in
    subst (Divides k p fs (by_cut f)) g.1 (by_sides (integers_are k f.entries g.0))

-- DISJUNCTS
-- a formula is a disjunction or not
kind : (f : Formula) → ((hs : Formulas) × (f ≡ some hs)) ⊎ ((disjuncts_of f ≡ None) × (is_disjunction f ≡ false))
kind (some hs) = inl (hs, refl)
kind (truth_value b) = inr (refl, refl)
kind (row f) = inr (refl, refl)
kind (equal f) = inr (refl, refl)
kind (bool_var v) = inr (refl, refl)
kind (at l) = inr (refl, refl)
kind (negation f) = inr (refl, refl)
kind (every gs) = inr (refl, refl)

past_other : (front : Formulas) (n : ℕ) (f : Formula) (fs : Formulas) → disjuncts_of f ≡ None → split_from front n (more f fs) ≡ split_from (append front (more f none)) n fs
past_other front n f fs e = ap (split_by front n fs (λ j. split_from (append front (more f none)) j fs)) e

past_one : (front : Formulas) (n : ℕ) (hs fs : Formulas) → split_from front (suc n) (more (some hs) fs) ≡ split_from (append front (more (some hs) none)) n fs
past_one front n hs fs =
    let t : (suc n == 0) ≡ false = grind (arith, nat_tests) in
    let m : suc n - 1 ≡ n = omega arith in
    ap (λ b. if b then Some (in_place front hs fs) else split_from (append front (more (some hs) none)) (suc n - 1) fs) t ∙ ap (λ j. split_from (append front (more (some hs) none)) j fs) m

append_none : (fs : Formulas) → append fs none ≡ fs
append_none none = refl
append_none (more f fs) = ap (more f) (append_none fs)

abbrev count : List Formula → ℕ
count before = length (filter is_disjunction before)

uncounted : (f : Formula) (before : List Formula) → is_disjunction f ≡ false → count (f ∷ before) ≡ count before
uncounted f before e = ap (λ b. length (cond b (f ∷ filter is_disjunction before) (filter is_disjunction before))) e

abbrev Splits : Formulas → ℕ → Formulas → List Formula → List Formula → List Formula → Type 0
Splits front n fs before gs behind = split_from front n fs ≡ Some (in_place (append front (formulas before)) (formulas gs) (formulas behind))

split_of : (before gs behind : List Formula) (front : Formulas) → Splits front (count before) (formulas (before ++ (some (formulas gs) ∷ behind))) before gs behind
split_of [] gs behind front = ap (λ b. Some (in_place b (formulas gs) (formulas behind))) (sym (append_none front))
split_of (f ∷ before) gs behind front = by_kind (split_of before gs behind (append front (more f none))) (kind f)
  where
    whole : List Formula
    whole = before ++ (some (formulas gs) ∷ behind)

    Further : Type 0
    Further = Splits (append front (more f none)) (count before) (formulas whole) before gs behind

    moved : Further → split_from (append front (more f none)) (count before) (formulas whole) ≡ Some (in_place (append front (formulas (f ∷ before))) (formulas gs) (formulas behind))
    moved h = h ∙ ap (λ b. Some (in_place b (formulas gs) (formulas behind))) (append_again front (more f none) (formulas before))

    by_kind : Further → ((hs : Formulas) × (f ≡ some hs)) ⊎ ((disjuncts_of f ≡ None) × (is_disjunction f ≡ false)) → Splits front (count (f ∷ before)) (formulas (f ∷ whole)) (f ∷ before) gs behind
    by_kind h (inl (hs, e)) = subst (λ g. split_from front (count (g ∷ before)) (more g (formulas whole)) ≡ split_from (append front (more g none)) (count before) (formulas whole)) (sym e) (past_one front (count before) hs (formulas whole)) ∙ moved h
    by_kind h (inr (e, t)) = ap (λ n. split_from front n (more f (formulas whole))) (uncounted f before t) ∙ past_other front (count before) f (formulas whole) e ∙ moved h

same_splits : (p : Problem) (before behind : Formulas) (gs : List Formula) → split_problems p (in_place before (formulas gs) behind) ≡ map (λ g. record p { conjuncts = Some (append before (append (opened g) behind)) }) gs
same_splits p before behind [] = refl
same_splits p before behind (g ∷ gs) = ap (λ ps. record p { conjuncts = Some (append before (append (opened g) behind)) } ∷ ps) (same_splits p before behind gs)

-- where the conjuncts are split
record Split (front : Formulas) (n : ℕ) (fs : List Formula) (ls : List Formulas) : Type 0 where
  before : List Formula
  gs : List Formula
  behind : List Formula
  whole : fs ≡ before ++ (some (formulas gs) ∷ behind)
  counted : n ≡ count before
  into : ls ≡ in_place (append front (formulas before)) (formulas gs) (formulas behind)

split_is : (fs : List Formula) (front : Formulas) (n : ℕ) (ls : List Formulas) → split_from front n (formulas fs) ≡ Some ls → Split front n fs ls
split_is [] front n ls e = absurd cc
split_is (f ∷ fs) front n ls e = by_kind (λ m q. split_is fs (append front (more f none)) m ls q) n e (kind f)
  where
    further : (m j : ℕ) → ((before : List Formula) → m ≡ count before → j ≡ count (f ∷ before)) → Split (append front (more f none)) m fs ls → Split front j (f ∷ fs) ls
    further m j counts s = record {
      before = f ∷ s.before;
      gs = s.gs;
      behind = s.behind;
      whole = ap (λ hs. f ∷ hs) s.whole;
      counted = counts s.before s.counted;
      into = s.into ∙ ap (λ b. in_place b (formulas s.gs) (formulas s.behind)) (append_again front (more f none) (formulas s.before));
    }

    here : (hs : Formulas) → f ≡ some hs → split_from front 0 (more f (formulas fs)) ≡ Some ls → Split front 0 (f ∷ fs) ls
    here hs t q =
        let h : in_place front hs (formulas fs) ≡ ls = same_Some _ _ (sym (ap (λ g. split_from front 0 (more g (formulas fs))) t) ∙ q) in
        record {
          before = [];
          gs = listed hs;
          behind = fs;
          whole = ap (λ g. g ∷ fs) (t ∙ ap some (sym (formulas_listed hs)));
          counted = refl;
          into = sym h ∙ ap (λ b. in_place b hs (formulas fs)) (sym (append_none front)) ∙ ap (λ g. in_place (append front none) g (formulas fs)) (sym (formulas_listed hs));
        }

    Further : Type 0
    Further = (m : ℕ) → split_from (append front (more f none)) m (formulas fs) ≡ Some ls → Split (append front (more f none)) m fs ls

    by_kind : Further → (m : ℕ) → split_from front m (more f (formulas fs)) ≡ Some ls → ((hs : Formulas) × (f ≡ some hs)) ⊎ ((disjuncts_of f ≡ None) × (is_disjunction f ≡ false)) → Split front m (f ∷ fs) ls
    by_kind h zero q (inl (hs, t)) = here hs t q
    by_kind h (suc m) q (inl (hs, t)) =
        further m (suc m) (λ before c. ap suc c ∙ ap (λ g. count (g ∷ before)) (sym t))
        (h m (sym (subst (λ g. split_from front (suc m) (more g (formulas fs)) ≡ split_from (append front (more g none)) m (formulas fs)) (sym t) (past_one front m hs (formulas fs))) ∙ q))
    by_kind h m q (inr (d, t)) = further m m (λ before c. c ∙ sym (uncounted f before t)) (h m (sym (past_other front m f (formulas fs) d) ∙ q))

disjuncts_of_split : (k : Setting) (p : Problem) (fs before gs behind : List Formula) → fs ≡ before ++ (some (formulas gs) ∷ behind)
    → split_division p (formulas fs) (count before) ≡ Some (map (λ g. record p { conjuncts = Some (append (formulas before) (append (opened g) (formulas behind))) }) gs)
disjuncts_of_split k p fs before gs behind e =
    ap (λ hs. split_division p (formulas hs) (count before)) e
    ∙ ap (option_map (split_problems p)) (split_of before gs behind none)
    ∙ ap Some (same_splits p (formulas before) (formulas behind) gs)

split_given : (p : Problem) (o : Option (List Formulas)) (ps : List Problem) → option_map (split_problems p) o ≡ Some ps → (ls : List Formulas) × (o ≡ Some ls) × (split_problems p ls ≡ ps)
split_given p None ps e = absurd cc
split_given p (Some ls) ps e = (ls, refl, same_Some _ _ e)

disjuncts_are : (k : Setting) (p : Problem) (fs : List Formula) (i : ℕ) (ps : List Problem) → split_division p (formulas fs) i ≡ Some ps → Divides k p fs (by_split i) ps
disjuncts_are k p fs i ps e =
    let g = split_given p (split_from none i (formulas fs)) ps e in
    let s = split_is fs none i g.0 g.1 in
    subst (λ n. Divides k p fs (by_split n) ps) (sym s.counted)
    (
    subst (Divides k p fs (by_split (count s.before))) (sym (same_splits p (formulas s.before) (formulas s.behind) s.gs) ∙ ap (split_problems p) (sym s.into) ∙ g.2)
    (by_disjuncts s.before s.gs s.behind s.whole)
    )

-- ALL STEPS
pub divides_of : (k : Setting) (p : Problem) (fs : List Formula) (s : Step) (ps : List Problem) → Divides k p fs s ps → divided_into k p (formulas fs) s ≡ Some ps
divides_of k p fs _ _ (by_places {c = c} {x = x} there free active) = case_of k p fs c x there free active
divides_of k p fs _ _ (by_values {v = v} kind free) = value_of k p fs v kind free
divides_of k p fs _ _ (by_disjuncts before gs behind e) = disjuncts_of_split k p fs before gs behind e
divides_of k p fs _ _ (by_sides {f = f} each) = gives (are_integers k.variables f.entries) _ _ (integers_of k f.entries each) refl

pub divides_is : (k : Setting) (p : Problem) (fs : List Formula) (s : Step) (ps : List Problem) → divided_into k p (formulas fs) s ≡ Some ps → Divides k p fs s ps
divides_is k p fs (by_case c) ps e = case_is k p fs c ps e
divides_is k p fs (by_truth v) ps e = value_is k p fs v ps e
divides_is k p fs (by_split i) ps e = disjuncts_are k p fs i ps e
divides_is k p fs (by_cut f) ps e = cut_is k p fs f ps e
