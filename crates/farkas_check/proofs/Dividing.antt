use Rattle.std.proofs.Common.{◌≡◌, ℕ, ◌-◌, ◌<◌, Bool, true, false, List, [], ◌∷◌, length, refl, ap, ◌∙◌, subst, Option, Some, None, ◌⊎◌, inl, inr, arith, pos, ◌≤ℤ◌, ℤ}
use Rattle.std.specs.Prelude.{not, ◌&&◌, ◌||◌, ◌==◌, nat_lt, int_le, slice_get, slice_index_or, slice_set, All, if◌then◌else◌}
use Rattle.std.specs.Option.{option_map}
use Rattle.std.proofs.lemmas.List.Elements.{All-cons}
use Rattle.std.proofs.lemmas.Bool.{and_parts}
use Rattle.std.proofs.lemmas.Bool.Decides.{nat_tests}
use Rattle.std.proofs.lemmas.Int.{ints}
use Rattle.st_linear.specs.Linear.{Linear, value}
use Rattle.st_linear.specs.Simple.{complement, negated}
use Rattle.st_linear.proofs.Dividing.{value-negated}
use Rattle.st_form.specs.Formula.{Formula, Formulas, truth_value, row, equal, bool_var, at, negation, every, some, none, more, Situation, truth, every_truth, some_truth, is_zero}
use Rattle.st_form.specs.Simple.{Decided, Agrees, nothing, simples, gathered, parts, append, simple_row, opened}
use Rattle.st_form.proofs.SimpleTruths.{truth-simple, truth-simples, gathered_truth, part_truth, append_truth, said, agrees-nothing}
use Rattle.control_states.specs.declared.alternative.Alternative.{Alternative}
use Rattle.control_states.specs.Control.{ControlFacts, InControl, IsOneOf, Active, component_at}
use Rattle.control_states.specs.Place.{Follows}
use Rattle.control_states.proofs.Deciding.{place-right}
use Rattle.st_linear.specs.declared.rows.Line.{Line}
use Rattle.farkas_leaf.specs.Lines.{AllHold}
use Rattle.st_certificate.specs.Tree.{Step, by_case, by_truth, by_split, by_cut}
use Rattle.farkas_check.specs.Problem.{Setting, Problem, decided_by, posed, may_case, may_truth, is_free, has_truth, known_active, case_problems, truth_problem, in_place, split_at, split_from, split_problems, are_integers, cut_problem, divided_into, rows_with, rows_of, lines_with, lines_of}
use Rattle.farkas_check.specs.Meaning.{hold, Meets, MeetsOne}
use Rattle.farkas_check.proofs.Deciding.{table_set, active_known}
use Rattle.basic_laws.proofs.Truths.{and_both, or_parts}

pub hold-said : (s : Situation) (o : Option Formulas) → hold s o ≡ said true s o
hold-said s None = refl
hold-said s (Some fs) = refl

-- ---- decisions
posed-meets : (k : Setting) (m : ℕ → Alternative) (s : Situation) (cases : List (Option Alternative)) (truths : List (Option Bool)) (fs : Formulas)
    → InControl k.control m s.located → Follows k.control.components m cases → ((v : ℕ) (b : Bool) → slice_index_or truths v None ≡ Some b → s.truths v ≡ b)
    → every_truth s fs ≡ true → Meets k.control m s (posed k.control cases truths fs)
posed-meets k m s cases truths fs i f t h =
    let d : Decided = decided_by k.control cases truths in
    let agrees : Agrees s d = record { truths = t; places = λ l b e. place-right k.control m s.located cases i f l b e } in
    record {
      control = i;
      cases = f;
      truths = t;
      conjuncts = hold-said s (gathered true (simples d fs true)) ∙ gathered_truth true s (simples d fs true) ∙ (truth-simples d fs true s agrees).0 ∙ h;
    }

case-covers : (k : Setting) (m : ℕ → Alternative) (s : Situation) (p : Problem) (fs : Formulas) (c : ℕ) → Meets k.control m s p → every_truth s fs ≡ true → is_free (slice_get p.cases c) ≡ true → Active k.control.components m c
    → (choices : List Alternative) → IsOneOf (m c) choices → MeetsOne k.control m s (case_problems k.control p fs c choices)
case-covers k m s p fs c g h free act [] e = absurd e
case-covers k m s p fs c g h free act (a ∷ rest) (inl e) =
    inl (posed-meets k m s (slice_set p.cases c (Some a)) p.truths fs g.control
    (table_set p.cases (λ d x. Active k.control.components m d × (m d ≡ x)) c a free g.cases (act, e)) g.truths h)
case-covers k m s p fs c g h free act (a ∷ rest) (inr e) = inr (case-covers k m s p fs c g h free act rest e)

truth-covers : (k : Setting) (m : ℕ → Alternative) (s : Situation) (p : Problem) (fs : Formulas) (v : ℕ) → Meets k.control m s p → every_truth s fs ≡ true → is_free (slice_get p.truths v) ≡ true
    → (b : Bool) → s.truths v ≡ b → Meets k.control m s (truth_problem k.control p fs v b)
truth-covers k m s p fs v g h free b e =
    posed-meets k m s p.cases (slice_set p.truths v (Some b)) fs g.control g.cases (table_set p.truths (λ d x. s.truths d ≡ x) v b free g.truths e) h

-- ---- splits
abbrev pub OneHolds : Situation → List Formulas → Type 0
OneHolds s [] = ⊥
OneHolds s (fs ∷ rest) = (every_truth s fs ≡ true) ⊎ OneHolds s rest

opened_truth : (s : Situation) (f : Formula) → truth s f ≡ true → every_truth s (opened f) ≡ true
opened_truth s (every gs) h = h
opened_truth s f h = and_both (truth s f) true h refl

both_truth : (s : Situation) (fs gs : Formulas) → every_truth s fs ≡ true → every_truth s gs ≡ true → every_truth s (append fs gs) ≡ true
both_truth s fs gs h k = append_truth true s fs gs ∙ and_both (every_truth s fs) (every_truth s gs) h k

in_place-covers : (s : Situation) (before : Formulas) (gs behind : Formulas) → every_truth s before ≡ true → some_truth s gs ≡ true → every_truth s behind ≡ true → OneHolds s (in_place before gs behind)
in_place-covers s before none behind h k l = absurd (cc)
in_place-covers s before (more g gs) behind h k l = elim (or_parts (truth s g) (some_truth s gs) k) [
  | inl e ↦ inl (both_truth s before (append (opened g) behind) h (both_truth s (opened g) behind (opened_truth s g e) l))
  | inr e ↦ inr (in_place-covers s before gs behind h e l)
]

at-covers : (s : Situation) (before : Formulas) (k : ℕ) (behind : Formulas) (further : ℕ → Option (List Formulas)) (ls : List Formulas) (f : Formula)
    → split_at before k behind further f ≡ Some ls → ((j : ℕ) → further j ≡ Some ls → OneHolds s ls) → every_truth s before ≡ true → truth s f ≡ true → every_truth s behind ≡ true → OneHolds s ls
at-covers s before k behind further ls (some gs) e rest h t l = by_test (k == 0) e
  where
    by_test : (b : Bool) → (if b then Some (in_place before gs behind) else further (k - 1)) ≡ Some ls → OneHolds s ls
    by_test true e = let same : in_place before gs behind ≡ ls = cc in subst (λ (x : List Formulas). OneHolds s x) same (in_place-covers s before gs behind h t l)
    by_test false e = rest (k - 1) e
at-covers s before k behind further ls (truth_value b) e rest h t l = rest k e
at-covers s before k behind further ls (row f) e rest h t l = rest k e
at-covers s before k behind further ls (equal f) e rest h t l = rest k e
at-covers s before k behind further ls (bool_var v) e rest h t l = rest k e
at-covers s before k behind further ls (at v) e rest h t l = rest k e
at-covers s before k behind further ls (negation f) e rest h t l = rest k e
at-covers s before k behind further ls (every fs) e rest h t l = rest k e

split-covers : (s : Situation) (fs before : Formulas) (k : ℕ) (ls : List Formulas) → split_from before k fs ≡ Some ls → every_truth s before ≡ true → every_truth s fs ≡ true → OneHolds s ls
split-covers s none before k ls e h t = absurd (cc)
split-covers s (more f fs) before k ls e h t =
    let p = and_parts (truth s f) (every_truth s fs) t in
    at-covers s before k fs (λ j. split_from (append before (more f none)) j fs) ls f e
    (λ j g. split-covers s fs (append before (more f none)) j ls g (both_truth s before (more f none) h (and_both (truth s f) true p.0 refl)) p.1)
    h p.0 p.1

split-meets : (k : ControlFacts) (m : ℕ → Alternative) (s : Situation) (p : Problem) → Meets k m s p → (ls : List Formulas) → OneHolds s ls → MeetsOne k m s (split_problems p ls)
split-meets k m s p g [] h = absurd h
split-meets k m s p g (fs ∷ rest) (inl h) = inl (record { control = g.control; cases = g.cases; truths = g.truths; conjuncts = h })
split-meets k m s p g (fs ∷ rest) (inr h) = inr (split-meets k m s p g rest h)

-- ---- cuts
joined_hold : (s : Situation) (fs : Formulas) (o : Option Formulas) → every_truth s fs ≡ true → said true s o ≡ true → hold s (option_map (append fs) o) ≡ true
joined_hold s fs None h k = absurd (cc)
joined_hold s fs (Some gs) h k = both_truth s fs gs h k

cut-meets : (k : ControlFacts) (m : ℕ → Alternative) (s : Situation) (p : Problem) (fs : Formulas) (f : Linear) → Meets k m s p → every_truth s fs ≡ true → truth s (simple_row f) ≡ true → Meets k m s (cut_problem p fs f)
cut-meets k m s p fs f g h t =
    record { control = g.control; cases = g.cases; truths = g.truths; conjuncts = joined_hold s fs (parts true (simple_row f)) h (part_truth true s (simple_row f) ∙ t) }

-- ---- all steps
test_less : (m n : ℕ) → nat_lt m n ≡ true → m < n
test_less m n h = grind (arith, nat_tests)

-- a situation that meets a problem meets one of the problems that a step divides it into
pub covers : (k : Setting) (m : ℕ → Alternative) (s : Situation) (p : Problem) (fs : Formulas) (t : Step) (ps : List Problem) → Meets k.control m s p → every_truth s fs ≡ true → divided_into k p fs t ≡ Some ps → MeetsOne k.control m s ps
covers k m s p fs (by_case c) ps g h e = by_test (may_case k.control p.cases c) refl e
  where
    by_test : (b : Bool) → may_case k.control p.cases c ≡ b → (if b then Some (case_problems k.control p fs c (component_at k.control.components c).alternatives) else None) ≡ Some ps → MeetsOne k.control m s ps
    by_test true t e =
        let q = and_parts (nat_lt c (length k.control.components)) (is_free (slice_get p.cases c) && known_active p.cases (component_at k.control.components c).around) t in
        let r = and_parts (is_free (slice_get p.cases c)) (known_active p.cases (component_at k.control.components c).around) q.1 in
        let act = active_known k.control.components m p.cases c (test_less c (length k.control.components) q.0) g.cases r.1 in
        let same : case_problems k.control p fs c (component_at k.control.components c).alternatives ≡ ps = cc in
        subst (λ (x : List Problem). MeetsOne k.control m s x) same (case-covers k m s p fs c g h r.0 act (component_at k.control.components c).alternatives (g.control.state c act))
    by_test false t e = absurd (cc)
covers k m s p fs (by_truth v) ps g h e = by_test (may_truth k.variables p.truths v) refl e
  where
    by_test : (b : Bool) → may_truth k.variables p.truths v ≡ b → (if b then Some (truth_problem k.control p fs v true ∷ truth_problem k.control p fs v false ∷ []) else None) ≡ Some ps → MeetsOne k.control m s ps
    by_test true t e =
        let q = and_parts (has_truth (slice_get k.variables v)) (is_free (slice_get p.truths v)) t in
        let same : (truth_problem k.control p fs v true ∷ truth_problem k.control p fs v false ∷ []) ≡ ps = cc in
        subst (λ (x : List Problem). MeetsOne k.control m s x) same (by_value (s.truths v) refl q.1)
      where
        by_value : (b : Bool) → s.truths v ≡ b → is_free (slice_get p.truths v) ≡ true → MeetsOne k.control m s (truth_problem k.control p fs v true ∷ truth_problem k.control p fs v false ∷ [])
        by_value true e f = inl (truth-covers k m s p fs v g h f true e)
        by_value false e f = inr (inl (truth-covers k m s p fs v g h f false e))
    by_test false t e = absurd (cc)
covers k m s p fs (by_split i) ps g h e = by_lists (split_from none i fs) refl e
  where
    by_lists : (o : Option (List Formulas)) → split_from none i fs ≡ o → option_map (split_problems p) o ≡ Some ps → MeetsOne k.control m s ps
    by_lists None a e = absurd (cc)
    by_lists (Some ls) a e =
        let same : split_problems p ls ≡ ps = cc in
        subst (λ (x : List Problem). MeetsOne k.control m s x) same (split-meets k.control m s p g ls (split-covers s fs none i ls a refl h))
covers k m s p fs (by_cut f) ps g h e = by_test (are_integers k.variables f.entries) e
  where
    by_test : (b : Bool) → (if b then Some (cut_problem p fs f ∷ cut_problem p fs (complement f) ∷ []) else None) ≡ Some ps → MeetsOne k.control m s ps
    by_test true e =
        let same : (cut_problem p fs f ∷ cut_problem p fs (complement f) ∷ []) ≡ ps = cc in
        subst (λ (x : List Problem). MeetsOne k.control m s x) same (by_value (int_le (pos 0) (value s.numbers f)) refl)
      where
        by_value : (b : Bool) → int_le (pos 0) (value s.numbers f) ≡ b → MeetsOne k.control m s (cut_problem p fs f ∷ cut_problem p fs (complement f) ∷ [])
        by_value true e = inl (cut-meets k.control m s p fs f g h (truth-simple nothing (row f) true s (agrees-nothing s) ∙ e))
        by_value false e = inr (inl (cut-meets k.control m s p fs (complement f) g h (truth-simple nothing (row f) false s (agrees-nothing s) ∙ ap not e)))
    by_test false e = absurd (cc)

-- ---- rows and lines
from_le : (z : ℤ) → int_le (pos 0) z ≡ true → pos 0 ≤ℤ z
from_le z h = grind (arith, ints)

from_ge : (z : ℤ) → int_le z (pos 0) ≡ true → z ≤ℤ pos 0
from_ge z h = grind (arith, ints)

rows-with-met : (s : Situation) (f : Formula) (rest : List Linear) → truth s f ≡ true → All (λ f. pos 0 ≤ℤ value s.numbers f) rest → All (λ f. pos 0 ≤ℤ value s.numbers f) (rows_with f rest)
rows-with-met s (row f) rest t h = All-cons (λ f. pos 0 ≤ℤ value s.numbers f) f rest (from_le (value s.numbers f) t) h
rows-with-met s (equal f) rest t h =
    let p = and_parts (int_le (value s.numbers f) (pos 0)) (int_le (pos 0) (value s.numbers f)) t in
    let up = from_le (value s.numbers f) p.1 in
    let down : pos 0 ≤ℤ value s.numbers (negated f) = omega (arith, ints, from_ge (value s.numbers f) p.0, value-negated s.numbers f) in
    All-cons (λ f. pos 0 ≤ℤ value s.numbers f) f (negated f ∷ rest) up (All-cons (λ f. pos 0 ≤ℤ value s.numbers f) (negated f) rest down h)
rows-with-met s (truth_value b) rest t h = h
rows-with-met s (bool_var v) rest t h = h
rows-with-met s (at l) rest t h = h
rows-with-met s (negation f) rest t h = h
rows-with-met s (every fs) rest t h = h
rows-with-met s (some fs) rest t h = h

pub rows-met : (s : Situation) (fs : Formulas) → every_truth s fs ≡ true → All (λ f. pos 0 ≤ℤ value s.numbers f) (rows_of fs)
rows-met s none t = λ k d h. absurd (omega (arith, h))
rows-met s (more f fs) t = let p = and_parts (truth s f) (every_truth s fs) t in rows-with-met s f (rows_of fs) p.0 (rows-met s fs p.1)

is_zero-is : (z : ℤ) → is_zero z ≡ true → z ≡ pos 0
is_zero-is z t =
    let p = and_parts (int_le z (pos 0)) (int_le (pos 0) z) t in
    let down : z ≤ℤ pos 0 = from_ge z p.0 in
    let up : pos 0 ≤ℤ z = from_le z p.1 in
    omega (arith, ints)

lines-with-hold : (s : Situation) (f : Formula) (rest : List Line) → truth s f ≡ true → AllHold s.numbers rest → AllHold s.numbers (lines_with f rest)
lines-with-hold s (row f) rest t h = (from_le (value s.numbers f) t, h)
lines-with-hold s (equal f) rest t h = (is_zero-is (value s.numbers f) t, h)
lines-with-hold s (truth_value b) rest t h = h
lines-with-hold s (bool_var v) rest t h = h
lines-with-hold s (at l) rest t h = h
lines-with-hold s (negation f) rest t h = h
lines-with-hold s (every fs) rest t h = h
lines-with-hold s (some fs) rest t h = h

pub lines-hold : (s : Situation) (fs : Formulas) → every_truth s fs ≡ true → AllHold s.numbers (lines_of fs)
lines-hold s none t = tt
lines-hold s (more f fs) t = let p = and_parts (truth s f) (every_truth s fs) t in lines-with-hold s f (lines_of fs) p.0 (lines-hold s fs p.1)
