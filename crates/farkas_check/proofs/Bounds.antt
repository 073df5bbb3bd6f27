use Rattle.std.proofs.Common.{◌≡◌, ℕ, ◌+◌, ◌-◌, ◌<◌, ◌≤◌, ◌^◌, Bool, true, false, List, [], ◌∷◌, length, take, drop, get_or, Option, Some, None, arith, ℤ, pos, negsuc, zero, suc, ◌+ℤ◌, neg_ℤ}
use Rattle.std.specs.Prelude.{not, ◌==◌, slice_set, if◌then◌else◌, unsigned_abs, option_and_then, All, int_le}
use Rattle.std.specs.Option.{option_map}
use Rattle.std.specs.Int.{int_div_euclid}
use Rattle.std.proofs.lemmas.Int.{ints}
use Rattle.std.proofs.lemmas.List.Elements.{All-map, All-cons}
use Rattle.st_linear.specs.Linear.{Linear}
use Rattle.st_linear.specs.Simple.{common_divisor, divided, complement, lowered, negated}
use Rattle.st_linear.proofs.Dividing.{unsigned_abs-quotient, unsigned_abs-neg}
use Rattle.st_linear.specs.Linear.{IsSlim}
use Rattle.st_form.specs.Formula.{Formula, Formulas, truth_value, row, equal, bool_var, at, negation, every, some, none, more, is_zero}
use Rattle.st_form.specs.Simple.{Decided, is_constant, leads_negative, simple_row, simple_equal, simple_apart, leading, divides_constant, append, parts, gathered, closed, joined_parts, literal, simple, simples, opened, IsModest, AreModest}
use Rattle.st_form.specs.Plain.{plain, plain_list}
use Rattle.st_form.specs.declared.Form.{Form}
use Rattle.std.proofs.lemmas.List.{drop_more}
use Rattle.control_states.specs.declared.alternative.Alternative.{Alternative}
use Rattle.st_form.specs.declared.variables.Variable.{Variable}
use Rattle.control_states.specs.Control.{ControlFacts, component_at}
use Rattle.st_linear.specs.declared.rows.Line.{Line}
use Rattle.farkas_check.specs.Problem.{Problem, posed, decided_by, may_case, case_problems, case_division, may_truth, truth_problem, truth_division, disjuncts_of, split_by, in_place, split_from, split_problems, split_division, are_integers, cut_problem, cut_division, rows_with, rows_of, lines_with, lines_of}
use Rattle.farkas_check.specs.Limits.{IsSlight, IsNarrow, AreNarrow, IsLiteral, IsSettled, AreSettled, AreFit, AllFit, DivisionFits}

-- ---- forms
less : (z : ℤ) → unsigned_abs (neg_ℤ z +ℤ negsuc 0) ≤ unsigned_abs z + 1
less (pos zero) = omega arith
less (pos (suc n)) = omega (arith, ints)
less (negsuc n) = omega (arith, ints)

down : (z : ℤ) → unsigned_abs (z +ℤ negsuc 0) ≤ unsigned_abs z + 1
down (pos zero) = omega arith
down (pos (suc n)) = omega (arith, ints)
down (negsuc n) = omega (arith, ints)

pub slim-divided : (d : ℕ) (f : Linear) → IsSlim f → IsSlim (divided d f)
slim-divided d f s = record {
  constant = omega (arith, s.constant, unsigned_abs-quotient f.constant d);
  entries = All-map (λ (e : ℕ × ℤ). unsigned_abs e.1 < 2 ^ 70) (λ e. (e.0, int_div_euclid e.1 (pos d))) f.entries (λ k x h. omega (arith, s.entries k x h, unsigned_abs-quotient (get_or f.entries k x).1 d));
}

pub slim-negated : (f : Linear) → IsSlim f → IsSlim (negated f)
slim-negated f s = record {
  constant = omega (arith, s.constant, unsigned_abs-neg f.constant);
  entries = All-map (λ (e : ℕ × ℤ). unsigned_abs e.1 < 2 ^ 70) (λ e. (e.0, neg_ℤ e.1)) f.entries (λ k x h. omega (arith, s.entries k x h, unsigned_abs-neg (get_or f.entries k x).1));
}

pub slim-slight : (f : Linear) → IsSlight f → IsSlim f
slim-slight f s = record { constant = omega (arith, s.constant); entries = λ k x h. omega (arith, s.entries k x h) }

pub slim-complement : (f : Linear) → IsSlight f → IsSlim (complement f)
slim-complement f s = record {
  constant = omega (arith, s.constant, less f.constant);
  entries = All-map (λ (e : ℕ × ℤ). unsigned_abs e.1 < 2 ^ 70) (λ e. (e.0, neg_ℤ e.1)) f.entries (λ k x h. omega (arith, s.entries k x h, unsigned_abs-neg (get_or f.entries k x).1));
}

slim-lowered : (f : Linear) → IsSlight f → IsSlim (lowered f)
slim-lowered f s = record { constant = omega (arith, s.constant, down f.constant); entries = λ k x h. omega (arith, s.entries k x h) }

-- ---- simplified formulas
pub settled-row : (f : Linear) → IsSlim f → IsSettled (simple_row f)
settled-row f s = by_test (is_constant f)
  where
    by_test : (b : Bool) → IsSettled (if b then truth_value (int_le (pos 0) f.constant) else row (divided (common_divisor f.entries) f))
    by_test true = tt
    by_test false = slim-divided (common_divisor f.entries) f s

slim-leading : (f : Linear) (b : Bool) → IsSlim f → IsSlim (if b then negated f else f)
slim-leading f true s = slim-negated f s
slim-leading f false s = s

settled-equal : (f : Linear) → IsSlim f → IsSettled (simple_equal f)
settled-equal f s = by_test (is_constant f) (divides_constant f)
  where
    by_test : (b d : Bool) → IsSettled (if b then truth_value (is_zero f.constant) else (if d then equal (leading (divided (common_divisor f.entries) f)) else truth_value false))
    by_test true d = tt
    by_test false true = slim-leading (divided (common_divisor f.entries) f) (leads_negative (divided (common_divisor f.entries) f).entries) (slim-divided (common_divisor f.entries) f s)
    by_test false false = tt

settled-apart : (f : Linear) → IsSlight f → IsSettled (simple_apart f)
settled-apart f s = by_test (is_constant f) (divides_constant f)
  where
    by_test : (b d : Bool) → IsSettled (if b then truth_value (not (is_zero f.constant)) else (if d then some (more (simple_row (lowered f)) (more (simple_row (complement f)) none)) else truth_value true))
    by_test true d = tt
    by_test false true = (settled-row (lowered f) (slim-lowered f s), (settled-row (complement f) (slim-complement f s), tt))
    by_test false false = tt

settled-parts : (all : Bool) (f : Formula) → IsSettled f → AreFit (parts all f)
settled-parts true (truth_value true) h = tt
settled-parts true (truth_value false) h = tt
settled-parts false (truth_value true) h = tt
settled-parts false (truth_value false) h = tt
settled-parts true (every gs) h = h
settled-parts false (every gs) h = (h, tt)
settled-parts true (some gs) h = (h, tt)
settled-parts false (some gs) h = h
settled-parts all (row f) h = (h, tt)
settled-parts all (equal f) h = (h, tt)
settled-parts all (bool_var v) h = (h, tt)
settled-parts all (at l) h = (h, tt)
settled-parts all (negation f) h = (h, tt)

settled-append : (fs gs : Formulas) → AreSettled fs → AreSettled gs → AreSettled (append fs gs)
settled-append none gs h k = k
settled-append (more f fs) gs h k = (h.0, settled-append fs gs h.1 k)

fit-append : (fs : Formulas) (o : Option Formulas) → AreSettled fs → AreFit o → AreFit (option_map (append fs) o)
fit-append fs None h k = tt
fit-append fs (Some gs) h k = settled-append fs gs h k

fit-joined : (o p : Option Formulas) → AreFit o → AreFit p → AreFit (option_and_then (λ gs. option_map (append gs) p) o)
fit-joined None p h k = tt
fit-joined (Some gs) p h k = fit-append gs p h k

fit-gathered : (all : Bool) (fs : Formulas) → AreSettled fs → AreFit (gathered all fs)
fit-gathered all none h = tt
fit-gathered all (more f fs) h = fit-joined (parts all f) (gathered all fs) (settled-parts all f h.0) (fit-gathered all fs h.1)

settled-closed : (all : Bool) (fs : Formulas) → AreSettled fs → IsSettled (closed all fs)
settled-closed all none h = tt
settled-closed all (more f none) h = h.0
settled-closed true (more f (more g fs)) h = h
settled-closed false (more f (more g fs)) h = h

settled-joined : (all : Bool) (o : Option Formulas) → AreFit o → IsSettled (joined_parts all o)
settled-joined all None h = tt
settled-joined all (Some fs) h = settled-closed all fs h

settled-literal : (plus : Bool) (f : Formula) (o : Option Bool) → IsLiteral f → IsSettled f → IsSettled (literal plus f o)
settled-literal true f None h k = k
settled-literal false f None h k = h
settled-literal plus f (Some b) h k = tt

mutual
  narrow-simple : (d : Decided) (f : Formula) (plus : Bool) → IsNarrow f → IsSettled (simple d f plus)
  narrow-simple d (truth_value b) plus h = tt
  narrow-simple d (row f) true h = settled-row f (slim-slight f h)
  narrow-simple d (row f) false h = settled-row (complement f) (slim-complement f h)
  narrow-simple d (equal f) true h = settled-equal f (slim-slight f h)
  narrow-simple d (equal f) false h = settled-apart f h
  narrow-simple d (bool_var v) plus h = settled-literal plus (bool_var v) (d.truths v) tt tt
  narrow-simple d (at l) plus h = settled-literal plus (at l) (d.places l) tt tt
  narrow-simple d (negation f) plus h = narrow-simple d f (not plus) h
  narrow-simple d (every fs) plus h = settled-joined plus (gathered plus (simples d fs plus)) (fit-gathered plus (simples d fs plus) (narrow-simples d fs plus h))
  narrow-simple d (some fs) plus h = settled-joined (not plus) (gathered (not plus) (simples d fs plus)) (fit-gathered (not plus) (simples d fs plus) (narrow-simples d fs plus h))

  narrow-simples : (d : Decided) (fs : Formulas) (plus : Bool) → AreNarrow fs → AreSettled (simples d fs plus)
  narrow-simples d none plus h = tt
  narrow-simples d (more f fs) plus h = (narrow-simple d f plus h.0, narrow-simples d fs plus h.1)

literal-again : (d : Decided) (f : Formula) → IsLiteral f → IsSettled (simple d f false)
literal-again d (bool_var v) h = settled-literal false (bool_var v) (d.truths v) tt tt
literal-again d (at l) h = settled-literal false (at l) (d.places l) tt tt
literal-again d (truth_value b) h = tt
literal-again d (row f) h = absurd h
literal-again d (equal f) h = absurd h
literal-again d (negation f) h = absurd h
literal-again d (every f) h = absurd h
literal-again d (some f) h = absurd h

mutual
  settled-again : (d : Decided) (f : Formula) → IsSettled f → IsSettled (simple d f true)
  settled-again d (truth_value b) h = tt
  settled-again d (row f) h = settled-row f h
  settled-again d (equal f) h = settled-equal f h
  settled-again d (bool_var v) h = settled-literal true (bool_var v) (d.truths v) tt tt
  settled-again d (at l) h = settled-literal true (at l) (d.places l) tt tt
  settled-again d (negation f) h = literal-again d f h
  settled-again d (every fs) h = settled-joined true (gathered true (simples d fs true)) (fit-gathered true (simples d fs true) (all-again d fs h))
  settled-again d (some fs) h = settled-joined false (gathered false (simples d fs true)) (fit-gathered false (simples d fs true) (all-again d fs h))

  all-again : (d : Decided) (fs : Formulas) → AreSettled fs → AreSettled (simples d fs true)
  all-again d none h = tt
  all-again d (more f fs) h = (settled-again d f h.0, all-again d fs h.1)

modest-literal : (f : Formula) → IsLiteral f → IsModest f
modest-literal (bool_var v) h = tt
modest-literal (at l) h = tt
modest-literal (truth_value b) h = tt
modest-literal (row f) h = absurd h
modest-literal (equal f) h = absurd h
modest-literal (negation f) h = absurd h
modest-literal (every f) h = absurd h
modest-literal (some f) h = absurd h

mutual
  pub modest-settled : (f : Formula) → IsSettled f → IsModest f
  modest-settled (truth_value b) h = tt
  modest-settled (row f) h = omega (arith, h.constant)
  modest-settled (equal f) h = omega (arith, h.constant)
  modest-settled (bool_var v) h = tt
  modest-settled (at l) h = tt
  modest-settled (negation f) h = modest-literal f h
  modest-settled (every fs) h = all-modest-settled fs h
  modest-settled (some fs) h = all-modest-settled fs h

  pub all-modest-settled : (fs : Formulas) → AreSettled fs → AreModest fs
  all-modest-settled none h = tt
  all-modest-settled (more f fs) h = (modest-settled f h.0, all-modest-settled fs h.1)

mutual
  pub modest-narrow : (f : Formula) → IsNarrow f → IsModest f
  modest-narrow (truth_value b) h = tt
  modest-narrow (row f) h = omega (arith, h.constant)
  modest-narrow (equal f) h = omega (arith, h.constant)
  modest-narrow (bool_var v) h = tt
  modest-narrow (at l) h = tt
  modest-narrow (negation f) h = modest-narrow f h
  modest-narrow (every fs) h = all-modest-narrow fs h
  modest-narrow (some fs) h = all-modest-narrow fs h

  all-modest-narrow : (fs : Formulas) → AreNarrow fs → AreModest fs
  all-modest-narrow none h = tt
  all-modest-narrow (more f fs) h = (modest-narrow f h.0, all-modest-narrow fs h.1)

-- ---- problems
pub fit-first : (d : Decided) (given shown : Formula) → IsNarrow given → IsNarrow shown → AreFit (parts true (simple d (every (more given (more (negation shown) none))) true))
fit-first d given shown h k = settled-parts true (simple d (every (more given (more (negation shown) none))) true) (narrow-simple d (every (more given (more (negation shown) none))) true (h, (k, tt)))

pub fit-posed : (k : ControlFacts) (cases : List (Option Alternative)) (truths : List (Option Bool)) (fs : Formulas) → AreSettled fs → AreFit (posed k cases truths fs).conjuncts
fit-posed k cases truths fs h = fit-gathered true (simples (decided_by k cases truths) fs true) (all-again (decided_by k cases truths) fs h)

fit-cases : (k : ControlFacts) (p : Problem) (fs : Formulas) (c : ℕ) (choices : List Alternative) → AreSettled fs → AllFit (case_problems k p fs c choices)
fit-cases k p fs c [] h = tt
fit-cases k p fs c (a ∷ rest) h = (fit-posed k (slice_set p.cases c (Some a)) p.truths fs h, fit-cases k p fs c rest h)

pub fit-case : (k : ControlFacts) (p : Problem) (fs : Formulas) (c : ℕ) → AreSettled fs → DivisionFits (case_division k p fs c)
fit-case k p fs c h = by_test (may_case k p.cases c)
  where
    by_test : (b : Bool) → DivisionFits (if b then Some (case_problems k p fs c (component_at k.components c).alternatives) else None)
    by_test true = fit-cases k p fs c (component_at k.components c).alternatives h
    by_test false = tt

pub fit-truth : (k : ControlFacts) (vs : List Variable) (p : Problem) (fs : Formulas) (v : ℕ) → AreSettled fs → DivisionFits (truth_division k vs p fs v)
fit-truth k vs p fs v h = by_test (may_truth vs p.truths v)
  where
    by_test : (b : Bool) → DivisionFits (if b then Some (truth_problem k p fs v true ∷ truth_problem k p fs v false ∷ []) else None)
    by_test true = (fit-posed k p.cases (slice_set p.truths v (Some true)) fs h, (fit-posed k p.cases (slice_set p.truths v (Some false)) fs h, tt))
    by_test false = tt

abbrev EachSettled : List Formulas → Type 0
EachSettled [] = Unit {0}
EachSettled (fs ∷ rest) = AreSettled fs × EachSettled rest

abbrev AllSettled : Option (List Formulas) → Type 0
AllSettled None = Unit {0}
AllSettled (Some ls) = EachSettled ls

settled-opened : (f : Formula) → IsSettled f → AreSettled (opened f)
settled-opened (every gs) h = h
settled-opened (truth_value b) h = (h, tt)
settled-opened (row f) h = (h, tt)
settled-opened (equal f) h = (h, tt)
settled-opened (bool_var v) h = (h, tt)
settled-opened (at l) h = (h, tt)
settled-opened (negation f) h = (h, tt)
settled-opened (some gs) h = (h, tt)

settled-in_place : (before gs behind : Formulas) → AreSettled before → AreSettled gs → AreSettled behind → EachSettled (in_place before gs behind)
settled-in_place before none behind h k l = tt
settled-in_place before (more g gs) behind h k l =
    (settled-append before (append (opened g) behind) h (settled-append (opened g) behind (settled-opened g k.0) l), settled-in_place before gs behind h k.1 l)

settled-disjuncts : (f : Formula) → IsSettled f → AreFit (disjuncts_of f)
settled-disjuncts (some gs) h = h
settled-disjuncts (every gs) h = tt
settled-disjuncts (truth_value b) h = tt
settled-disjuncts (row f) h = tt
settled-disjuncts (equal f) h = tt
settled-disjuncts (bool_var v) h = tt
settled-disjuncts (at l) h = tt
settled-disjuncts (negation f) h = tt

settled-by : (before : Formulas) (k : ℕ) (behind : Formulas) (further : ℕ → Option (List Formulas)) (o : Option Formulas) → AreSettled before → AreFit o → AreSettled behind → ((j : ℕ) → AllSettled (further j)) → AllSettled (split_by before k behind further o)
settled-by before k behind further None h g l r = r k
settled-by before k behind further (Some gs) h g l r = by_test (k == 0)
  where
    by_test : (b : Bool) → AllSettled (if b then Some (in_place before gs behind) else further (k - 1))
    by_test true = settled-in_place before gs behind h g l
    by_test false = r (k - 1)

settled-split : (fs before : Formulas) (k : ℕ) → AreSettled before → AreSettled fs → AllSettled (split_from before k fs)
settled-split none before k h g = tt
settled-split (more f fs) before k h g =
    settled-by before k fs (λ j. split_from (append before (more f none)) j fs) (disjuncts_of f) h (settled-disjuncts f g.0) g.1
    (λ j. settled-split fs (append before (more f none)) j (settled-append before (more f none) h (g.0, tt)) g.1)

fit-splits : (p : Problem) (ls : List Formulas) → EachSettled ls → AllFit (split_problems p ls)
fit-splits p [] h = tt
fit-splits p (fs ∷ rest) h = (h.0, fit-splits p rest h.1)

pub fit-split : (p : Problem) (fs : Formulas) (i : ℕ) → AreSettled fs → DivisionFits (split_division p fs i)
fit-split p fs i h = by_lists (split_from none i fs) (settled-split fs none i tt h)
  where
    by_lists : (o : Option (List Formulas)) → AllSettled o → DivisionFits (option_map (split_problems p) o)
    by_lists None g = tt
    by_lists (Some ls) g = fit-splits p ls g

fit-side : (fs : Formulas) (f : Linear) → AreSettled fs → IsSlim f → AreFit (option_map (append fs) (parts true (simple_row f)))
fit-side fs f h s = fit-append fs (parts true (simple_row f)) h (settled-parts true (simple_row f) (settled-row f s))

pub fit-cut : (vs : List Variable) (p : Problem) (fs : Formulas) (f : Linear) → AreSettled fs → IsSlight f → DivisionFits (cut_division vs p fs f)
fit-cut vs p fs f h s = by_test (are_integers vs f.entries)
  where
    by_test : (b : Bool) → DivisionFits (if b then Some (cut_problem p fs f ∷ cut_problem p fs (complement f) ∷ []) else None)
    by_test true = (fit-side fs f h (slim-slight f s), (fit-side fs (complement f) h (slim-complement f s), tt))
    by_test false = tt

-- ---- rows and lines
slim-with : (f : Formula) (rest : List Linear) → IsSettled f → All IsSlim rest → All IsSlim (rows_with f rest)
slim-with (row f) rest h k = All-cons IsSlim f rest h k
slim-with (equal f) rest h k = All-cons IsSlim f (negated f ∷ rest) h (All-cons IsSlim (negated f) rest (slim-negated f h) k)
slim-with (truth_value b) rest h k = k
slim-with (bool_var v) rest h k = k
slim-with (at l) rest h k = k
slim-with (negation f) rest h k = k
slim-with (every fs) rest h k = k
slim-with (some fs) rest h k = k

pub slim-rows : (fs : Formulas) → AreSettled fs → All IsSlim (rows_of fs)
slim-rows none h = λ k d l. absurd (omega (arith, l))
slim-rows (more f fs) h = slim-with f (rows_of fs) h.0 (slim-rows fs h.1)

slim-line : (f : Formula) (rest : List Line) → IsSettled f → All (λ l. IsSlim l.form) rest → All (λ l. IsSlim l.form) (lines_with f rest)
slim-line (row f) rest h k = All-cons (λ l. IsSlim l.form) (record { form = f; equal = false }) rest h k
slim-line (equal f) rest h k = All-cons (λ l. IsSlim l.form) (record { form = f; equal = true }) rest h k
slim-line (truth_value b) rest h k = k
slim-line (bool_var v) rest h k = k
slim-line (at l) rest h k = k
slim-line (negation f) rest h k = k
slim-line (every fs) rest h k = k
slim-line (some fs) rest h k = k

pub slim-lines : (fs : Formulas) → AreSettled fs → All (λ l. IsSlim l.form) (lines_of fs)
slim-lines none h = λ k d l. absurd (omega (arith, l))
slim-lines (more f fs) h = slim-line f (lines_of fs) h.0 (slim-lines fs h.1)

-- ---- in the code's loops
pub settled-more : (fs : List Form) (i : ℕ) (f : Form) → i < length fs → f ≡ get_or fs i f → AreSettled (plain_list (drop i fs)) → IsSettled (plain f) × AreSettled (plain_list (drop (i + 1) fs))
settled-more fs i f h e g = let p = rw (drop_more fs i f h) at g in (rw e p.0, p.1)

pub settled-found : (gs : Formulas) (f : Formula) → Some gs ≡ disjuncts_of f → IsSettled f → AreSettled gs
settled-found gs f e h = let g = settled-disjuncts f h in rw (← e) at g

settled-take : (i : ℕ) (fs : List Form) → AreSettled (plain_list fs) → AreSettled (plain_list (take i fs))
settled-take zero fs h = tt
settled-take (suc i) [] h = tt
settled-take (suc i) (f ∷ fs) h = (h.0, settled-take i fs h.1)

settled-drop : (i : ℕ) (fs : List Form) → AreSettled (plain_list fs) → AreSettled (plain_list (drop i fs))
settled-drop zero fs h = h
settled-drop (suc i) [] h = tt
settled-drop (suc i) (f ∷ fs) h = settled-drop i fs h.1

pub settled-place : (fs : List Form) (i j : ℕ) (f : Formula) → AreSettled (plain_list fs) → IsSettled f → AreSettled (append (plain_list (take i fs)) (append (opened f) (plain_list (drop j fs))))
settled-place fs i j f h k =
    settled-append (plain_list (take i fs)) (append (opened f) (plain_list (drop j fs))) (settled-take i fs h)
    (settled-append (opened f) (plain_list (drop j fs)) (settled-opened f k) (settled-drop j fs h))

pub fit-again : (d : Decided) (fs : Formulas) → AreSettled fs → AreFit (gathered true (simples d fs true))
fit-again d fs h = fit-gathered true (simples d fs true) (all-again d fs h)
