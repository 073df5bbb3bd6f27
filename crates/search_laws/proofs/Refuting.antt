-- A state that is shown makes the condition false.
use Rattle.std.proofs.Common.{◌≡◌, ℕ, ◌<◌, Bool, true, false, List, [], ◌∷◌, length, replicate, refl, ap, ◌∙◌, sym, subst, Option, Some, None, inl, inr, arith, ℤ, pos, ◌≤ℤ◌}
use Rattle.std.specs.Prelude.{◌&&◌, if◌then◌else◌, nat_lt, int_le, slice_get, slice_index_or, slice_set, unwrap_or}
use Rattle.std.specs.Option.{option_map}
use Rattle.std.proofs.lemmas.Int.{ints}
use Rattle.std.proofs.lemmas.Bool.{and_parts, cases_eq, cases_lt}
use Rattle.std.proofs.lemmas.Bool.Decides.{nat_tests}
use Rattle.std.proofs.lemmas.List.{get_or-set_other, get_or-replicate, length-replicate}
use Rattle.std.proofs.Math.ListN.{get_or-eq_default}
use Rattle.st_linear.specs.Linear.{Linear, value}
use Rattle.st_linear.specs.declared.rows.Line.{Line}
use Rattle.farkas_leaf.specs.Lines.{AllHold}
use Rattle.st_form.specs.Formula.{Formula, Formulas, truth_value, row, equal, bool_var, at, negation, every, some, none, more, Situation, truth, every_truth, is_zero}
use Rattle.st_form.specs.Simple.{append}
use Rattle.control_states.specs.declared.alternative.Alternative.{Alternative}
use Rattle.control_states.specs.Control.{ControlFacts, component_at, IsOneOf}
use Rattle.st_certificate.specs.Tree.{Step, by_case, by_truth, by_split, by_cut, Tree}
use Rattle.farkas_check.specs.Problem.{Setting, Problem, is_free, is_within, known_active, may_case, may_truth, case_problems, truth_problem, disjuncts_of, split_by, split_from, split_problems, divided_into, lines_with, lines_of, first_problem}
use Rattle.farkas_check.specs.Meaning.{hold, Meets}
use Rattle.farkas_check.proofs.Deciding.{table_set}
use Rattle.search_laws.specs.States.{State, situation_of, state_of}
use Rattle.search_laws.specs.Walks.{PathStep, Failure, left_open, given_up, Found, found, stopped, searched}
use Rattle.search_laws.specs.Moves.{or_else, first_place, first_place_of, first_truth, first_truth_of, move_of, open_at, failed_at, verdict_of, decided}
use Rattle.search_laws.specs.Forms.{AllForms, AllFormsOf, IsInOrder}
use Rattle.search_laws.specs.Laws.{Shows, IsCounterexample}
use Rattle.search_laws.proofs.Walking.{AllOf, OneOf, Explains, Told, walk-told}
use Rattle.search_laws.proofs.Shapes.{Keeps, IsPart, AreParts, IfParts, IsShaped, first-shaped}
use Rattle.search_laws.specs.Steady.{IsNoCut}
use Rattle.search_laws.proofs.Describing.{IsDivided, IsLeft, IsFailed, Describes, describes}
use Rattle.search_laws.proofs.Finding.{division-shaped, is-divided}
use Rattle.search_laws.proofs.Standing.{stand, IsKnown, AreKnown, follows, in-control, listed-active}
use Rattle.search_laws.proofs.Returning.{free-none, meets-back, first-back}
use Rattle.search_laws.proofs.Pointing.{point-holds}
use Rattle.basic_laws.proofs.Numbers.{less}
use Rattle.basic_laws.proofs.Truths.{and_both}

-- ---- conjuncts at the end
none-else : {A : Type 0} (a b : Option A) → or_else a b ≡ None → (a ≡ None) × (b ≡ None)
none-else None b h = (refl, h)
none-else (Some x) b h = absurd (cc)

least-test : (z : ℤ) → pos 0 ≤ℤ z → int_le (pos 0) z ≡ true
least-test z h = grind (arith, ints)

zero-test : (z : ℤ) → z ≡ pos 0 → is_zero z ≡ true
zero-test z h = rw h refl

abbrev pub Any : Linear → Type 0
Any f = Unit {0}

conjunct-true : (s : Situation) (f : Formula) (rest : List Line) → IsPart Any f true → first_place f ≡ None → first_truth f ≡ None → disjuncts_of f ≡ None → AllHold s.numbers (lines_with f rest) → (truth s f ≡ true) × AllHold s.numbers rest
conjunct-true s (truth_value b) rest h l v d a = absurd h
conjunct-true s (row f) rest h l v d a = (least-test (value s.numbers f) a.0, a.1)
conjunct-true s (equal f) rest h l v d a = (zero-test (value s.numbers f) a.0, a.1)
conjunct-true s (bool_var w) rest h l v d a = absurd (cc)
conjunct-true s (at m) rest h l v d a = absurd (cc)
conjunct-true s (negation (bool_var w)) rest h l v d a = absurd (cc)
conjunct-true s (negation (at m)) rest h l v d a = absurd (cc)
conjunct-true s (negation (truth_value b)) rest h l v d a = absurd h
conjunct-true s (negation (row f)) rest h l v d a = absurd h
conjunct-true s (negation (equal f)) rest h l v d a = absurd h
conjunct-true s (negation (negation f)) rest h l v d a = absurd h
conjunct-true s (negation (every fs)) rest h l v d a = absurd h
conjunct-true s (negation (some fs)) rest h l v d a = absurd h
conjunct-true s (every fs) rest h l v d a = absurd h
conjunct-true s (some fs) rest h l v d a = absurd (cc)

abbrev HaveNoDisjunction : Formulas → Type 0
HaveNoDisjunction none = Unit {0}
HaveNoDisjunction (more f fs) = (disjuncts_of f ≡ None) × HaveNoDisjunction fs

no-disjunct : (before behind : Formulas) (further : ℕ → Option (List Formulas)) (o : Option Formulas) → split_by before 0 behind further o ≡ None → (o ≡ None) × (further 0 ≡ None)
no-disjunct before behind further None h = (refl, h)
no-disjunct before behind further (Some gs) h = absurd (cc)

no-disjunctions : (fs before : Formulas) → split_from before 0 fs ≡ None → HaveNoDisjunction fs
no-disjunctions none before h = tt
no-disjunctions (more f fs) before h =
    let r = no-disjunct before fs (λ j. split_from (append before (more f none)) j fs) (disjuncts_of f) h in
    (r.0, no-disjunctions fs (append before (more f none)) r.1)

-- rows and equations alone, whose lines hold
conjuncts-true : (s : Situation) (fs : Formulas) → AreParts Any fs true → first_place_of fs ≡ None → first_truth_of fs ≡ None → HaveNoDisjunction fs → AllHold s.numbers (lines_of fs) → every_truth s fs ≡ true
conjuncts-true s none h l v d a = refl
conjuncts-true s (more f fs) h l v d a =
    let p = none-else (first_place f) (first_place_of fs) l in
    let q = none-else (first_truth f) (first_truth_of fs) v in
    let r = conjunct-true s f (lines_of fs) h.0 p.0 q.0 d.0 a in
    and_both (truth s f) (every_truth s fs) r.0 (conjuncts-true s fs h.1 p.1 q.1 d.1 r.1)

-- ---- decisions
known-set : (cases : List (Option Alternative)) (c : ℕ) (a : Alternative) → is_free (slice_get cases c) ≡ true → (w : Option (ℕ × ℕ)) → known_active cases w ≡ true → known_active (slice_set cases c (Some a)) w ≡ true
known-set cases c a free None h = refl
known-set cases c a free (Some w) h = elim (cases_eq w.0 c) [
  | inl same ↦ let e : slice_index_or cases w.0 None ≡ None = ap (λ (n : ℕ). slice_index_or cases n None) same ∙ free-none cases c free in
      let t : is_within w.1 None ≡ true = ap (is_within w.1) (sym e) ∙ h in absurd (cc)
  | inr other ↦ ap (is_within w.1) (get_or-set_other cases c w.0 (Some a) None other) ∙ h
]

known-case : (k : ControlFacts) (cases : List (Option Alternative)) (c : ℕ) (a : Alternative) → is_free (slice_get cases c) ≡ true → AreKnown k cases → IsKnown k cases c a → AreKnown k (slice_set cases c (Some a))
known-case k cases c a free g n =
    table_set cases (IsKnown k (slice_set cases c (Some a))) c a free
    (λ d x h. let q = g d x h in record { there = q.there; active = known-set cases c a free (component_at k.components d).around q.active; choice = q.choice })
    (record { there = n.there; active = known-set cases c a free (component_at k.components c).around n.active; choice = n.choice })

abbrev pub HasKnown : Setting → Problem → Type 0
HasKnown k p = AreKnown k.control p.cases

-- each of some alternatives is one of all
abbrev AreAmong : List Alternative → List Alternative → Type 0
AreAmong [] all = Unit {0}
AreAmong (a ∷ rest) all = IsOneOf a all × AreAmong rest all

among-more : (xs : List Alternative) (y : Alternative) (ys : List Alternative) → AreAmong xs ys → AreAmong xs (y ∷ ys)
among-more [] y ys h = tt
among-more (x ∷ xs) y ys h = (inr h.0, among-more xs y ys h.1)

among-all : (xs : List Alternative) → AreAmong xs xs
among-all [] = tt
among-all (x ∷ xs) = (inl refl, among-more xs x xs (among-all xs))

cases-known : (k : Setting) (p : Problem) (fs : Formulas) (c : ℕ) → HasKnown k p → is_free (slice_get p.cases c) ≡ true → (choices : List Alternative)
    → ((a : Alternative) → IsOneOf a (component_at k.control.components c).alternatives → IsKnown k.control p.cases c a) → AreAmong choices (component_at k.control.components c).alternatives → AllOf (HasKnown k) (case_problems k.control p fs c choices)
cases-known k p fs c g free [] n h = tt
cases-known k p fs c g free (a ∷ rest) n h = (known-case k.control p.cases c a free g (n a h.0), cases-known k p fs c g free rest n h.1)

splits-known : (k : Setting) (p : Problem) → HasKnown k p → (ls : List Formulas) → AllOf (HasKnown k) (split_problems p ls)
splits-known k p g [] = tt
splits-known k p g (fs ∷ rest) = (g, splits-known k p g rest)

pub division-known : (k : Setting) (p : Problem) (fs : Formulas) (t : Step) (ps : List Problem) → IsNoCut t → HasKnown k p → divided_into k p fs t ≡ Some ps → AllOf (HasKnown k) ps
division-known k p fs (by_case c) ps n g e = by_test (may_case k.control p.cases c) refl e
  where
    by_test : (b : Bool) → may_case k.control p.cases c ≡ b → (if b then Some (case_problems k.control p fs c (component_at k.control.components c).alternatives) else None) ≡ Some ps → AllOf (HasKnown k) ps
    by_test true t e =
        let q = and_parts (nat_lt c (length k.control.components)) (is_free (slice_get p.cases c) && known_active p.cases (component_at k.control.components c).around) t in
        let r = and_parts (is_free (slice_get p.cases c)) (known_active p.cases (component_at k.control.components c).around) q.1 in
        let same : case_problems k.control p fs c (component_at k.control.components c).alternatives ≡ ps = cc in
        subst (λ (x : List Problem). AllOf (HasKnown k) x) same
        (cases-known k p fs c g r.0 (component_at k.control.components c).alternatives (λ a o. record { there = less c (length k.control.components) q.0; active = r.1; choice = o }) (among-all (component_at k.control.components c).alternatives))
    by_test false t e = absurd (cc)
division-known k p fs (by_truth v) ps n g e = by_test (may_truth k.variables p.truths v) e
  where
    by_test : (b : Bool) → (if b then Some (truth_problem k.control p fs v true ∷ truth_problem k.control p fs v false ∷ []) else None) ≡ Some ps → AllOf (HasKnown k) ps
    by_test true e =
        let same : truth_problem k.control p fs v true ∷ truth_problem k.control p fs v false ∷ [] ≡ ps = cc in
        subst (λ (x : List Problem). AllOf (HasKnown k) x) same (g, (g, tt))
    by_test false e = absurd (cc)
division-known k p fs (by_split i) ps n g e = by_lists (split_from none i fs) e
  where
    by_lists : (o : Option (List Formulas)) → option_map (split_problems p) o ≡ Some ps → AllOf (HasKnown k) ps
    by_lists None e = absurd (cc)
    by_lists (Some ls) e = let same : split_problems p ls ≡ ps = cc in subst (λ (x : List Problem). AllOf (HasKnown k) x) same (splits-known k p g ls)
division-known k p fs (by_cut f) ps n g e = absurd n

pub none-listed : (n c : ℕ) (o : Option Alternative) → o ≡ None → slice_index_or (replicate n o) c o ≡ o
none-listed n c o h = elim (cases_lt c n) [
  | inl lt ↦ get_or-replicate n c o o lt
  | inr ge ↦ get_or-eq_default (replicate n o) o (omega (arith, ge, length-replicate n o))
]

nothing-decided : (n c : ℕ) (a : Alternative) → slice_index_or (replicate n None) c None ≡ Some a → ⊥
nothing-decided n c a h = let e = none-listed n c None refl in absurd (cc)

pub first-known : (k : Setting) (given shown : Formula) → HasKnown k (first_problem k given shown)
first-known k given shown c a h = absurd (nothing-decided (length k.control.components) c a h)

-- ---- where the search ends
abbrev Good : Setting → Problem → Type 0
Good k p = IsShaped Any p × HasKnown k p

-- a control state and a situation that a state shows, and that meet a problem
abbrev IsMet : Setting → State → Problem → Type 0
IsMet k state p = (m : ℕ → Alternative) × (s : Situation) × Shows k m s state × Meets k.control m s p

abbrev Refuted : Setting → Failure → Problem → Type 0
Refuted k (left_open None) p = Unit {0}
Refuted k (left_open (Some state)) p = IsMet k state p
Refuted k (given_up s) p = Unit {0}

parts-of : (o : Option Formulas) (fs : Formulas) → o ≡ Some fs → IfParts Any true o → AreParts Any fs true
parts-of o fs e h = rw e at h

no-splits : (p : Problem) (o : Option (List Formulas)) → option_map (split_problems p) o ≡ None → o ≡ None
no-splits p None h = refl
no-splits p (Some ls) h = absurd (cc)

holding : (s : Situation) (o : Option Formulas) (fs : Formulas) → o ≡ Some fs → every_truth s fs ≡ true → hold s o ≡ true
holding s o fs e h = rw e h

decided-so : (o : Option Bool) (b : Bool) → o ≡ Some b → unwrap_or o false ≡ b
decided-so o b h = rw h refl

left-met : (k : Setting) → IsInOrder k.control → (p : Problem) (state : State) → Good k p → IsLeft k p state → IsMet k state p
left-met k o p state g h =
    let s : Situation = situation_of k.control p h.point in
    let m : ℕ → Alternative = stand k.control p.cases in
    let lines = point-holds (lines_of h.conjuncts) (length k.variables) h.uses h.point h.pointed in
    let none' = no-disjunctions h.conjuncts none (no-splits p (split_from none 0 h.conjuncts) h.no_disjunction) in
    let conjuncts = conjuncts-true s h.conjuncts (parts-of p.conjuncts h.conjuncts h.are g.0) h.no_place h.no_truth none' lines in
    let shows : Shows k m s (state_of k p h.point) = record { control = λ c a. listed-active k.control p.cases o c a; store = refl } in (
      m,
      s,
      subst (λ (x : State). Shows k m s x) (sym h.shown) shows,
      record {
        control = in-control k.control p.cases o g.1;
        cases = follows k.control p.cases o g.1;
        truths = λ v b e. decided-so (slice_index_or p.truths v None) b e;
        conjuncts = holding s p.conjuncts h.conjuncts h.are conjuncts;
      },
    )

failed-refuted : (k : Setting) → IsInOrder k.control → (p : Problem) (e : Failure) → Good k p → IsFailed k p e → Refuted k e p
failed-refuted k o p (left_open None) g h = tt
failed-refuted k o p (left_open (Some state)) g h = left-met k o p state g h
failed-refuted k o p (given_up s) g h = tt

-- the same situation for one of the problems
one-met : (k : Setting) (state : State) (ps : List Problem) → OneOf (IsMet k state) ps → (m : ℕ → Alternative) × (s : Situation) × Shows k m s state × OneOf (Meets k.control m s) ps
one-met k state [] h = absurd h
one-met k state (p ∷ ps) (inl h) = (h.0, h.1, h.2, inl h.3)
one-met k state (p ∷ ps) (inr h) = let r = one-met k state ps h in (r.0, r.1, r.2, inr r.3)

opened-refuted : (k : Setting) (p : Problem) (t : Step) (ps : List Problem) (e : Failure) → IsDivided k p t ps → OneOf (Refuted k e) ps → Refuted k e p
opened-refuted k p t ps (left_open None) d h = tt
opened-refuted k p t ps (left_open (Some state)) d h =
    let r = one-met k state ps h in
    (r.0, r.1, r.2, meets-back k r.0 r.1 p d.conjuncts t ps d.step d.are d.division r.3)
opened-refuted k p t ps (given_up s) d h = tt

any-keeps : Keeps Any
any-keeps = record { divided = λ f h. tt; negated = λ f h. tt; lowered = λ f h. tt; complement = λ f h. tt }

pub both-of : {P : Type 0} (Q R : P → Type 0) (ps : List P) → AllOf Q ps → AllOf R ps → AllOf (λ p. Q p × R p) ps
both-of Q R [] h k = tt
both-of Q R (p ∷ ps) h k = ((h.0, k.0), both-of Q R ps h.1 k.1)

abbrev AnyTree : Tree → Problem → Type 0
AnyTree t p = Unit {0}

search-refutes : (k : Setting) → IsInOrder k.control → Explains (move_of k) (Good k) AnyTree (Refuted k)
search-refutes k o = record {
  closing = λ p t g e. tt;
  keeping = λ p t ps g e.
      let d = is-divided k p t ps e in
      both-of (IsShaped Any) (HasKnown k) ps (division-shaped Any any-keeps k p d.conjuncts t ps d.step (parts-of p.conjuncts d.conjuncts d.are g.0) d.division) (division-known k p d.conjuncts t ps d.step g.1 d.division);
  dividing = λ p t ps ts g e h. tt;
  failing = λ p e g h. failed-refuted k o p e g (subst (Describes k p) h (describes k p));
  opening = λ p t ps e g h one. opened-refuted k p t ps e (is-divided k p t ps h) one;
  tree = λ p. tt;
}

mutual
  any-forms : (f : Formula) → AllForms Any f
  any-forms (truth_value b) = tt
  any-forms (row f) = tt
  any-forms (equal f) = tt
  any-forms (bool_var v) = tt
  any-forms (at l) = tt
  any-forms (negation f) = any-forms f
  any-forms (every fs) = all-any-forms fs
  any-forms (some fs) = all-any-forms fs

  all-any-forms : (fs : Formulas) → AllFormsOf Any fs
  all-any-forms none = tt
  all-any-forms (more f fs) = (any-forms f, all-any-forms fs)

-- ---- verdicts
open-failed : (path qath : List PathStep) (e : Failure) (state : State) → failed_at path e ≡ open_at qath (Some state) → e ≡ left_open (Some state)
open-failed path qath (left_open o) state h = let same : o ≡ Some state = cc in ap left_open same
open-failed path qath (given_up s) state h = absurd (cc)

open-stopped : (f : Found) (path : List PathStep) (state : State) → verdict_of f ≡ open_at path (Some state) → (qath : List PathStep) × (f ≡ stopped qath (left_open (Some state)))
open-stopped (found t n) path state h = absurd (cc)
open-stopped (stopped qath e) path state h = (qath, ap (stopped qath) (open-failed qath path e state h))

pub refuted : (k : Setting) (given shown : Formula) (path : List PathStep) (state : State) → IsInOrder k.control → decided k given shown ≡ open_at path (Some state) → IsCounterexample k given shown state
refuted k given shown path state o e =
    let p : Problem = first_problem k given shown in
    let f = open-stopped (searched (move_of k) p) path state e in
    let good : Good k p = (first-shaped Any any-keeps k given shown (any-forms given) (any-forms shown), first-known k given shown) in
    let told = subst (Told AnyTree (Refuted k) p) f.1 (walk-told (move_of k) (Good k) AnyTree (Refuted k) (search-refutes k o) 400 p 0 good) in
    let back = first-back k given shown told.0 told.1 told.3 in
    record {
      at = told.0;
      values = told.1;
      shows = told.2;
      control = told.3.control;
      given_true = back.0;
      shown_false = back.1;
    }
