-- A situation that meets one of the problems of a division meets the problem that was divided.
use Rattle.std.proofs.Common.{◌≡◌, ℕ, ◌-◌, Bool, true, false, List, [], ◌∷◌, refl, ◌∙◌, sym, subst, Option, Some, None, ◌⊎◌, inl, inr}
use Rattle.std.specs.Prelude.{◌&&◌, ◌||◌, ◌==◌, if◌then◌else◌, slice_get, slice_index_or, slice_set}
use Rattle.std.specs.Option.{option_map}
use Rattle.std.proofs.lemmas.List.{get_or-set_other}
use Rattle.std.proofs.lemmas.Bool.{and_parts, cases_eq}
use Rattle.st_form.specs.Formula.{Formula, Formulas, truth_value, row, equal, bool_var, at, negation, every, some, none, more, Situation, truth, every_truth, some_truth}
use Rattle.st_form.specs.Simple.{Decided, Agrees, simples, gathered, append, opened, nothing, simple, parts}
use Rattle.st_form.proofs.SimpleTruths.{truth-simple, truth-simples, gathered_truth, part_truth, append_truth, said, agrees-nothing}
use Rattle.control_states.specs.declared.alternative.Alternative.{Alternative}
use Rattle.control_states.specs.Control.{ControlFacts, component_at}
use Rattle.control_states.proofs.Deciding.{place-right}
use Rattle.st_certificate.specs.Tree.{Step, by_case, by_truth, by_split, by_cut}
use Rattle.farkas_check.specs.Problem.{Setting, Problem, decided_by, posed, may_case, may_truth, is_free, has_truth, known_active, case_problems, truth_problem, in_place, split_at, split_from, split_problems, divided_into, first_problem}
use Rattle.farkas_check.specs.Meaning.{hold, Meets}
use Rattle.search_laws.proofs.Walking.{OneOf}
use Rattle.search_laws.specs.Steady.{IsNoCut}
use Rattle.std.specs.Prelude.{nat_lt, length, not, zero, suc}
use Rattle.basic_laws.proofs.Truths.{and_both}
use Rattle.farkas_check.proofs.Dividing.{OneHolds, hold-said}

-- ---- tables
pub free-none : {A : Type 0} (xs : List (Option A)) (c : ℕ) → is_free (slice_get xs c) ≡ true → slice_index_or xs c None ≡ None
free-none [] c h = refl
free-none {A} (x ∷ xs) zero h = by_entry x h
  where
    by_entry : (x : Option A) → is_free (Some x) ≡ true → x ≡ None
    by_entry None h = refl
    by_entry (Some a) h = absurd (cc)
free-none (x ∷ xs) (suc c) h = free-none xs c h

-- what was decided before one more decision is decided after it
pub kept-set : {A : Type 0} (xs : List (Option A)) (c : ℕ) (o : Option A) → is_free (slice_get xs c) ≡ true → (d : ℕ) (x : A) → slice_index_or xs d None ≡ Some x → slice_index_or (slice_set xs c o) d None ≡ Some x
kept-set xs c o free d x h = elim (cases_eq d c) [
  | inl same ↦ let e = sym (free-none xs c free) ∙ subst (λ (n : ℕ). slice_index_or xs n None ≡ Some x) same h in absurd (cc)
  | inr other ↦ get_or-set_other xs c d o None other ∙ h
]

posed-back : (k : ControlFacts) (m : ℕ → Alternative) (s : Situation) (cases : List (Option Alternative)) (truths : List (Option Bool)) (fs : Formulas) → Meets k m s (posed k cases truths fs) → every_truth s fs ≡ true
posed-back k m s cases truths fs g =
    let d : Decided = decided_by k cases truths in
    let agrees : Agrees s d = record { truths = g.truths; places = λ l b e. place-right k m s.located cases g.control g.cases l b e } in
    sym (hold-said s (gathered true (simples d fs true)) ∙ gathered_truth true s (simples d fs true) ∙ (truth-simples d fs true s agrees).0) ∙ g.conjuncts

holding : (s : Situation) (o : Option Formulas) (fs : Formulas) → o ≡ Some fs → every_truth s fs ≡ true → hold s o ≡ true
holding s o fs e h = rw e h

case-back : (k : ControlFacts) (m : ℕ → Alternative) (s : Situation) (p : Problem) (fs : Formulas) (c : ℕ) → p.conjuncts ≡ Some fs → is_free (slice_get p.cases c) ≡ true → (choices : List Alternative) → OneOf (Meets k m s) (case_problems k p fs c choices) → Meets k m s p
case-back k m s p fs c e free [] h = absurd h
case-back k m s p fs c e free (a ∷ rest) (inl g) = record {
  control = g.control;
  cases = λ d x i. g.cases d x (kept-set p.cases c (Some a) free d x i);
  truths = g.truths;
  conjuncts = holding s p.conjuncts fs e (posed-back k m s (slice_set p.cases c (Some a)) p.truths fs g);
}
case-back k m s p fs c e free (a ∷ rest) (inr h) = case-back k m s p fs c e free rest h

truth-back : (k : ControlFacts) (m : ℕ → Alternative) (s : Situation) (p : Problem) (fs : Formulas) (v : ℕ) (b : Bool) → p.conjuncts ≡ Some fs → is_free (slice_get p.truths v) ≡ true → Meets k m s (truth_problem k p fs v b) → Meets k m s p
truth-back k m s p fs v b e free g = record {
  control = g.control;
  cases = g.cases;
  truths = λ d x i. g.truths d x (kept-set p.truths v (Some b) free d x i);
  conjuncts = holding s p.conjuncts fs e (posed-back k m s p.cases (slice_set p.truths v (Some b)) fs g);
}

both-hold : (s : Situation) (fs gs : Formulas) → every_truth s (append fs gs) ≡ true → (every_truth s fs ≡ true) × (every_truth s gs ≡ true)
both-hold s fs gs h = and_parts (every_truth s fs) (every_truth s gs) (sym (append_truth true s fs gs) ∙ h)

opened-back : (s : Situation) (f : Formula) → every_truth s (opened f) ≡ true → truth s f ≡ true
opened-back s (every gs) h = h
opened-back s f h = (and_parts (truth s f) true h).0

or_left : (a b : Bool) → a ≡ true → (a || b) ≡ true
or_left true b h = refl
or_left false b h = absurd (cc)

or_right : (a b : Bool) → b ≡ true → (a || b) ≡ true
or_right true b h = refl
or_right false b h = h

in_place-back : (s : Situation) (before gs behind : Formulas) → OneHolds s (in_place before gs behind) → (every_truth s before ≡ true) × (some_truth s gs ≡ true) × (every_truth s behind ≡ true)
in_place-back s before none behind h = absurd h
in_place-back s before (more g gs) behind (inl h) =
    let p = both-hold s before (append (opened g) behind) h in
    let q = both-hold s (opened g) behind p.1 in
    (p.0, or_left (truth s g) (some_truth s gs) (opened-back s g q.0), q.1)
in_place-back s before (more g gs) behind (inr h) =
    let r = in_place-back s before gs behind h in
    (r.0, or_right (truth s g) (some_truth s gs) r.1, r.2)

-- the conjuncts before a formula, it, and those behind it
abbrev AllThree : Situation → Formulas → Formula → Formulas → Type 0
AllThree s before f behind = (every_truth s before ≡ true) × (truth s f ≡ true) × (every_truth s behind ≡ true)

at-back : (s : Situation) (before : Formulas) (k : ℕ) (behind : Formulas) (further : ℕ → Option (List Formulas)) (ls : List Formulas) (f : Formula) → split_at before k behind further f ≡ Some ls → OneHolds s ls → ((j : ℕ) → further j ≡ Some ls → AllThree s before f behind) → AllThree s before f behind
at-back s before k behind further ls (some gs) e h rest = by_test (k == 0) e
  where
    by_test : (b : Bool) → (if b then Some (in_place before gs behind) else further (k - 1)) ≡ Some ls → AllThree s before (some gs) behind
    by_test true e = let same : ls ≡ in_place before gs behind = cc in in_place-back s before gs behind (subst (λ (x : List Formulas). OneHolds s x) same h)
    by_test false e = rest (k - 1) e
at-back s before k behind further ls (truth_value b) e h rest = rest k e
at-back s before k behind further ls (row f) e h rest = rest k e
at-back s before k behind further ls (equal f) e h rest = rest k e
at-back s before k behind further ls (bool_var v) e h rest = rest k e
at-back s before k behind further ls (at v) e h rest = rest k e
at-back s before k behind further ls (negation f) e h rest = rest k e
at-back s before k behind further ls (every fs) e h rest = rest k e

split-back : (s : Situation) (fs before : Formulas) (k : ℕ) (ls : List Formulas) → split_from before k fs ≡ Some ls → OneHolds s ls → (every_truth s before ≡ true) × (every_truth s fs ≡ true)
split-back s none before k ls e h = absurd (cc)
split-back s (more f fs) before k ls e h =
    let r = at-back s before k fs (λ j. split_from (append before (more f none)) j fs) ls f e h (λ j g.
    let q = split-back s fs (append before (more f none)) j ls g h in
    let b = both-hold s before (more f none) q.0 in
    (b.0, (and_parts (truth s f) true b.1).0, q.1)) in
    (r.0, and_both (truth s f) (every_truth s fs) r.1 r.2)

splits-hold : (k : ControlFacts) (m : ℕ → Alternative) (s : Situation) (p : Problem) (ls : List Formulas) → OneOf (Meets k m s) (split_problems p ls) → OneHolds s ls
splits-hold k m s p [] h = absurd h
splits-hold k m s p (fs ∷ rest) (inl g) = inl g.conjuncts
splits-hold k m s p (fs ∷ rest) (inr h) = inr (splits-hold k m s p rest h)

splits-meet : (k : ControlFacts) (m : ℕ → Alternative) (s : Situation) (p : Problem) (fs : Formulas) → p.conjuncts ≡ Some fs → every_truth s fs ≡ true → (ls : List Formulas) → OneOf (Meets k m s) (split_problems p ls) → Meets k m s p
splits-meet k m s p fs e t [] h = absurd h
splits-meet k m s p fs e t (gs ∷ rest) (inl g) = record { control = g.control; cases = g.cases; truths = g.truths; conjuncts = holding s p.conjuncts fs e t }
splits-meet k m s p fs e t (gs ∷ rest) (inr h) = splits-meet k m s p fs e t rest h

-- ---- all steps
pub meets-back : (k : Setting) (m : ℕ → Alternative) (s : Situation) (p : Problem) (fs : Formulas) (t : Step) (ps : List Problem) → IsNoCut t → p.conjuncts ≡ Some fs → divided_into k p fs t ≡ Some ps → OneOf (Meets k.control m s) ps → Meets k.control m s p
meets-back k m s p fs (by_case c) ps n i e h = by_test (may_case k.control p.cases c) refl e
  where
    by_test : (b : Bool) → may_case k.control p.cases c ≡ b → (if b then Some (case_problems k.control p fs c (component_at k.control.components c).alternatives) else None) ≡ Some ps → Meets k.control m s p
    by_test true t e =
        let q = and_parts (nat_lt c (length k.control.components)) (is_free (slice_get p.cases c) && known_active p.cases (component_at k.control.components c).around) t in
        let r = and_parts (is_free (slice_get p.cases c)) (known_active p.cases (component_at k.control.components c).around) q.1 in
        let same : ps ≡ case_problems k.control p fs c (component_at k.control.components c).alternatives = cc in
        case-back k.control m s p fs c i r.0 (component_at k.control.components c).alternatives (subst (λ (x : List Problem). OneOf (Meets k.control m s) x) same h)
    by_test false t e = absurd (cc)
meets-back k m s p fs (by_truth v) ps n i e h = by_test (may_truth k.variables p.truths v) refl e
  where
    by_test : (b : Bool) → may_truth k.variables p.truths v ≡ b → (if b then Some (truth_problem k.control p fs v true ∷ truth_problem k.control p fs v false ∷ []) else None) ≡ Some ps → Meets k.control m s p
    by_test true t e =
        let q = and_parts (has_truth (slice_get k.variables v)) (is_free (slice_get p.truths v)) t in
        let same : ps ≡ truth_problem k.control p fs v true ∷ truth_problem k.control p fs v false ∷ [] = cc in
        by_value q.1 (subst (λ (x : List Problem). OneOf (Meets k.control m s) x) same h)
      where
        by_value : is_free (slice_get p.truths v) ≡ true → OneOf (Meets k.control m s) (truth_problem k.control p fs v true ∷ truth_problem k.control p fs v false ∷ []) → Meets k.control m s p
        by_value free (inl g) = truth-back k.control m s p fs v true i free g
        by_value free (inr (inl g)) = truth-back k.control m s p fs v false i free g
        by_value free (inr (inr g)) = absurd g
    by_test false t e = absurd (cc)
meets-back k m s p fs (by_split j) ps n i e h = by_lists (split_from none j fs) refl e
  where
    by_lists : (o : Option (List Formulas)) → split_from none j fs ≡ o → option_map (split_problems p) o ≡ Some ps → Meets k.control m s p
    by_lists None d e = absurd (cc)
    by_lists (Some ls) d e =
        let same : ps ≡ split_problems p ls = cc in
        let g = subst (λ (x : List Problem). OneOf (Meets k.control m s) x) same h in
        let t = split-back s fs none j ls d (splits-hold k.control m s p ls g) in
        splits-meet k.control m s p fs i t.1 ls g
meets-back k m s p fs (by_cut f) ps n i e h = absurd n

-- a situation that meets the problem of a condition makes it false
not-shown : (a b : Bool) → (a && (not b && true)) ≡ true → (a ≡ true) × (b ≡ false)
not-shown true true h = absurd (cc)
not-shown true false h = (refl, refl)
not-shown false b h = absurd (cc)

pub first-back : (k : Setting) (given shown : Formula) (m : ℕ → Alternative) (s : Situation) → Meets k.control m s (first_problem k given shown) → (truth s given ≡ true) × (truth s shown ≡ false)
first-back k given shown m s g =
    let whole : Formula = every (more given (more (negation shown) none)) in
    let chain : hold s (parts true (simple nothing whole true)) ≡ truth s whole = hold-said s (parts true (simple nothing whole true)) ∙ part_truth true s (simple nothing whole true) ∙ truth-simple nothing whole true s (agrees-nothing s) in
    not-shown (truth s given) (truth s shown) (sym chain ∙ g.conjuncts)
