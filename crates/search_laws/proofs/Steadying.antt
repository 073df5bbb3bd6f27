-- Simplified conjuncts stay as they are where nothing in them is decided, and each division keeps them such.
use Rattle.std.proofs.Common.{◌≡◌, ℕ, ◌-◌, Bool, true, false, List, [], ◌∷◌, refl, ap, ◌∙◌, subst, Option, Some, None, ℤ, pos}
use Rattle.std.specs.Prelude.{not, ◌==◌, if◌then◌else◌, option_and_then, int_le, slice_set}
use Rattle.std.specs.Option.{option_map}
use Rattle.st_linear.specs.Linear.{Linear}
use Rattle.st_linear.specs.Simple.{common_divisor, divided, complement, lowered}
use Rattle.st_linear.proofs.Dividing.{AreEntries-negated}
use Rattle.st_form.specs.Formula.{Formula, Formulas, truth_value, row, equal, bool_var, at, negation, every, some, none, more, is_zero}
use Rattle.st_form.specs.Simple.{Decided, nothing, is_constant, simple_row, simple_equal, simple_apart, leading, divides_constant, append, parts, gathered, closed, joined_parts, literal, simple, simples, opened}
use Rattle.control_states.specs.declared.alternative.Alternative.{Alternative}
use Rattle.control_states.specs.Control.{ControlFacts, component_at}
use Rattle.st_certificate.specs.Tree.{Step, by_case, by_truth, by_split, by_cut}
use Rattle.farkas_check.specs.Problem.{Setting, Problem, posed, decided_by, may_case, may_truth, case_problems, truth_problem, disjuncts_of, split_by, in_place, split_from, split_problems, divided_into, first_problem}
use Rattle.farkas_check.specs.Limits.{IsLiteral}
use Rattle.search_laws.specs.Forms.{AllForms, AllFormsOf}
use Rattle.search_laws.specs.Ends.{AllLiteralsOf}
use Rattle.search_laws.specs.Steady.{IsReduced, HaveTwo, IsSteady, AreSteady, IfSteady, IsUntouched, HasEntries, IsNoCut, AllSteady}
use Rattle.search_laws.proofs.Reducing.{reduced, divided-same, reduced-leading, leading-same, divides-constant}

-- a simplified formula
abbrev IsWhole : Formula → Type 0
IsWhole (truth_value b) = Unit {0}
IsWhole (row f) = IsSteady (row f) true
IsWhole (equal f) = IsSteady (equal f) true
IsWhole (bool_var v) = Unit {0}
IsWhole (at l) = Unit {0}
IsWhole (negation f) = IsLiteral f
IsWhole (every fs) = AreSteady fs true × HaveTwo fs
IsWhole (some fs) = AreSteady fs false × HaveTwo fs

abbrev AreWhole : Formulas → Type 0
AreWhole none = Unit {0}
AreWhole (more f fs) = IsWhole f × AreWhole fs

-- ---- what simplification makes
whole-row : (f : Linear) → HasEntries f → IsWhole (simple_row f)
whole-row f h = by_test (is_constant f) refl
  where
    by_test : (b : Bool) → is_constant f ≡ b → IsWhole (if b then truth_value (int_le (pos 0) f.constant) else row (divided (common_divisor f.entries) f))
    by_test true e = tt
    by_test false e = reduced f h e

whole-equal : (f : Linear) → HasEntries f → IsWhole (simple_equal f)
whole-equal f h = by_test (is_constant f) (divides_constant f) refl
  where
    by_test : (b d : Bool) → is_constant f ≡ b → IsWhole (if b then truth_value (is_zero f.constant) else (if d then equal (leading (divided (common_divisor f.entries) f)) else truth_value false))
    by_test true d e = tt
    by_test false true e = reduced-leading (divided (common_divisor f.entries) f) (reduced f h e)
    by_test false false e = tt

constant-negated : (f : Linear) → is_constant f ≡ false → is_constant (complement f) ≡ false
constant-negated f h = by_entries f.entries refl
  where
    by_entries : (es : List (ℕ × ℤ)) → f.entries ≡ es → is_constant (complement f) ≡ false
    by_entries [] e = absurd (let i = rw e at h in cc)
    by_entries (x ∷ xs) e = rw e refl

steady-row : (f : Linear) → HasEntries f → is_constant f ≡ false → IsSteady (simple_row f) false
steady-row f h e = let r = reduced f h e in rw e r

whole-apart : (f : Linear) → HasEntries f → IsWhole (simple_apart f)
whole-apart f h = by_test (is_constant f) (divides_constant f) refl
  where
    by_test : (b d : Bool) → is_constant f ≡ b → IsWhole (if b then truth_value (not (is_zero f.constant)) else (if d then some (more (simple_row (lowered f)) (more (simple_row (complement f)) none)) else truth_value true))
    by_test true d e = tt
    by_test false true e = ((steady-row (lowered f) h e, (steady-row (complement f) (AreEntries-negated f.entries h) (constant-negated f e), tt)), tt)
    by_test false false e = tt

append-steady : (all : Bool) (fs gs : Formulas) → AreSteady fs all → AreSteady gs all → AreSteady (append fs gs) all
append-steady all none gs h k = k
append-steady all (more f fs) gs h k = (h.0, append-steady all fs gs h.1 k)

whole-parts : (all : Bool) (f : Formula) → IsWhole f → IfSteady all (parts all f)
whole-parts true (truth_value true) h = tt
whole-parts true (truth_value false) h = tt
whole-parts false (truth_value true) h = tt
whole-parts false (truth_value false) h = tt
whole-parts true (every gs) h = h.0
whole-parts false (every gs) h = (h, tt)
whole-parts true (some gs) h = (h, tt)
whole-parts false (some gs) h = h.0
whole-parts all (row f) h = (h, tt)
whole-parts all (equal f) h = (h, tt)
whole-parts all (bool_var v) h = (h, tt)
whole-parts all (at l) h = (h, tt)
whole-parts all (negation f) h = (h, tt)

joined-steady : (all : Bool) (o p : Option Formulas) → IfSteady all o → IfSteady all p → IfSteady all (option_and_then (λ gs. option_map (append gs) p) o)
joined-steady all None p h k = tt
joined-steady all (Some gs) None h k = tt
joined-steady all (Some gs) (Some fs) h k = append-steady all gs fs h k

gathered-steady : (all : Bool) (fs : Formulas) → AreWhole fs → IfSteady all (gathered all fs)
gathered-steady all none h = tt
gathered-steady all (more f fs) h = joined-steady all (parts all f) (gathered all fs) (whole-parts all f h.0) (gathered-steady all fs h.1)

steady-whole : (all : Bool) (f : Formula) → IsSteady f all → IsWhole f
steady-whole all (truth_value b) h = tt
steady-whole all (row f) h = h
steady-whole all (equal f) h = h
steady-whole all (bool_var v) h = h
steady-whole all (at l) h = h
steady-whole all (negation f) h = h
steady-whole true (every fs) h = absurd h
steady-whole false (every fs) h = h
steady-whole true (some fs) h = h
steady-whole false (some fs) h = absurd h

closed-whole : (all : Bool) (fs : Formulas) → AreSteady fs all → IsWhole (closed all fs)
closed-whole all none h = tt
closed-whole all (more f none) h = steady-whole all f h.0
closed-whole true (more f (more g fs)) h = (h, tt)
closed-whole false (more f (more g fs)) h = (h, tt)

joined-whole : (all : Bool) (o : Option Formulas) → IfSteady all o → IsWhole (joined_parts all o)
joined-whole all None h = tt
joined-whole all (Some fs) h = closed-whole all fs h

literal-whole : (plus : Bool) (f : Formula) (o : Option Bool) → IsLiteral f → IsWhole f → IsWhole (literal plus f o)
literal-whole true f None h k = k
literal-whole false f None h k = h
literal-whole plus f (Some b) h k = tt

mutual
  simple-whole : (d : Decided) (f : Formula) (plus : Bool) → AllForms HasEntries f → IsWhole (simple d f plus)
  simple-whole d (truth_value b) plus h = tt
  simple-whole d (row f) true h = whole-row f h
  simple-whole d (row f) false h = whole-row (complement f) (AreEntries-negated f.entries h)
  simple-whole d (equal f) true h = whole-equal f h
  simple-whole d (equal f) false h = whole-apart f h
  simple-whole d (bool_var v) plus h = literal-whole plus (bool_var v) (d.truths v) tt tt
  simple-whole d (at l) plus h = literal-whole plus (at l) (d.places l) tt tt
  simple-whole d (negation f) plus h = simple-whole d f (not plus) h
  simple-whole d (every fs) plus h = joined-whole plus (gathered plus (simples d fs plus)) (gathered-steady plus (simples d fs plus) (simples-whole d fs plus h))
  simple-whole d (some fs) plus h = joined-whole (not plus) (gathered (not plus) (simples d fs plus)) (gathered-steady (not plus) (simples d fs plus) (simples-whole d fs plus h))

  simples-whole : (d : Decided) (fs : Formulas) (plus : Bool) → AllFormsOf HasEntries fs → AreWhole (simples d fs plus)
  simples-whole d none plus h = tt
  simples-whole d (more f fs) plus h = (simple-whole d f plus h.0, simples-whole d fs plus h.1)

literal-forms : (f : Formula) → IsLiteral f → AllForms HasEntries f
literal-forms (bool_var v) h = tt
literal-forms (at l) h = tt
literal-forms (truth_value b) h = tt
literal-forms (row f) h = absurd h
literal-forms (equal f) h = absurd h
literal-forms (negation f) h = absurd h
literal-forms (every f) h = absurd h
literal-forms (some f) h = absurd h

mutual
  steady-forms : (all : Bool) (f : Formula) → IsSteady f all → AllForms HasEntries f
  steady-forms all (truth_value b) h = tt
  steady-forms all (row f) h = h.entries
  steady-forms all (equal f) h = h.0.entries
  steady-forms all (bool_var v) h = tt
  steady-forms all (at l) h = tt
  steady-forms all (negation f) h = literal-forms f h
  steady-forms true (every fs) h = absurd h
  steady-forms false (every fs) h = all-forms true fs h.0
  steady-forms true (some fs) h = all-forms false fs h.0
  steady-forms false (some fs) h = absurd h

  all-forms : (all : Bool) (fs : Formulas) → AreSteady fs all → AllFormsOf HasEntries fs
  all-forms all none h = tt
  all-forms all (more f fs) h = (steady-forms all f h.0, all-forms all fs h.1)

-- ---- simplified again
row-stays : (f : Linear) → IsReduced f → simple_row f ≡ row f
row-stays f h = let v = h.varies in ap (λ (b : Bool). if b then truth_value (int_le (pos 0) f.constant) else row (divided (common_divisor f.entries) f)) v ∙ ap row (divided-same f h)

equal-stays : (f : Linear) → IsSteady (equal f) true → simple_equal f ≡ equal f
equal-stays f h =
    ap (λ (b : Bool). if b then truth_value (is_zero f.constant) else (if divides_constant f then equal (leading (divided (common_divisor f.entries) f)) else truth_value false)) h.0.varies
    ∙ ap (λ (b : Bool). if b then equal (leading (divided (common_divisor f.entries) f)) else truth_value false) (divides-constant f h.0)
    ∙ ap (λ (g : Linear). equal (leading g)) (divided-same f h.0)
    ∙ ap equal (leading-same f h.1)

literal-stays : (d : Decided) (f : Formula) → IsLiteral f → IsUntouched d f → simple d f false ≡ negation f
literal-stays d (bool_var v) h u = ap (literal false (bool_var v)) u
literal-stays d (at l) h u = ap (literal false (at l)) u
literal-stays d (truth_value b) h u = absurd h
literal-stays d (row f) h u = absurd h
literal-stays d (equal f) h u = absurd h
literal-stays d (negation f) h u = absurd h
literal-stays d (every f) h u = absurd h
literal-stays d (some f) h u = absurd h

part-alone : (all : Bool) (f : Formula) → IsSteady f all → parts all f ≡ Some (more f none)
part-alone all (truth_value b) h = absurd h
part-alone all (row f) h = refl
part-alone all (equal f) h = refl
part-alone all (bool_var v) h = refl
part-alone all (at l) h = refl
part-alone all (negation f) h = refl
part-alone true (every fs) h = absurd h
part-alone false (every fs) h = refl
part-alone true (some fs) h = refl
part-alone false (some fs) h = absurd h

every-closed : (fs : Formulas) → HaveTwo fs → closed true fs ≡ every fs
every-closed none h = absurd h
every-closed (more f none) h = absurd h
every-closed (more f (more g fs)) h = refl

some-closed : (fs : Formulas) → HaveTwo fs → closed false fs ≡ some fs
some-closed none h = absurd h
some-closed (more f none) h = absurd h
some-closed (more f (more g fs)) h = refl

mutual
  pub stays-same : (d : Decided) (all : Bool) (f : Formula) → IsSteady f all → IsUntouched d f → simple d f true ≡ f
  stays-same d all (truth_value b) h u = absurd h
  stays-same d all (row f) h u = row-stays f h
  stays-same d all (equal f) h u = equal-stays f h
  stays-same d all (bool_var v) h u = ap (literal true (bool_var v)) u
  stays-same d all (at l) h u = ap (literal true (at l)) u
  stays-same d all (negation f) h u = literal-stays d f h u
  stays-same d true (every fs) h u = absurd h
  stays-same d false (every fs) h u = ap (joined_parts true) (stay-gathered d true fs h.0 u) ∙ every-closed fs h.1
  stays-same d true (some fs) h u = ap (joined_parts false) (stay-gathered d false fs h.0 u) ∙ some-closed fs h.1
  stays-same d false (some fs) h u = absurd h

  pub stay-gathered : (d : Decided) (all : Bool) (fs : Formulas) → AreSteady fs all → AllLiteralsOf (λ l. d.places l ≡ None) (λ v. d.truths v ≡ None) fs → gathered all (simples d fs true) ≡ Some fs
  stay-gathered d all none h u = refl
  stay-gathered d all (more f fs) h u =
      let one = stays-same d all f h.0 u.0 in
      let rest = stay-gathered d all fs h.1 u.1 in
      ap (λ (g : Formula). option_and_then (λ gs. option_map (append gs) (gathered all (simples d fs true))) (parts all g)) one
      ∙ ap (option_and_then (λ gs. option_map (append gs) (gathered all (simples d fs true)))) (part-alone all f h.0)
      ∙ ap (option_map (append (more f none))) rest

-- ---- problems
pub first-steady : (k : Setting) (given shown : Formula) → AllForms HasEntries given → AllForms HasEntries shown → IfSteady true (first_problem k given shown).conjuncts
first-steady k given shown g h =
    let whole : Formula = every (more given (more (negation shown) none)) in
    whole-parts true (simple nothing whole true) (simple-whole nothing whole true (g, (h, tt)))

posed-steady : (k : ControlFacts) (cases : List (Option Alternative)) (truths : List (Option Bool)) (fs : Formulas) → AreSteady fs true → IfSteady true (posed k cases truths fs).conjuncts
posed-steady k cases truths fs h = gathered-steady true (simples (decided_by k cases truths) fs true) (simples-whole (decided_by k cases truths) fs true (all-forms true fs h))

cases-steady : (k : ControlFacts) (p : Problem) (fs : Formulas) (c : ℕ) (choices : List Alternative) → AreSteady fs true → AllSteady (case_problems k p fs c choices)
cases-steady k p fs c [] h = tt
cases-steady k p fs c (a ∷ rest) h = (posed-steady k (slice_set p.cases c (Some a)) p.truths fs h, cases-steady k p fs c rest h)

abbrev EachSteady : List Formulas → Type 0
EachSteady [] = Unit {0}
EachSteady (fs ∷ rest) = AreSteady fs true × EachSteady rest

abbrev IfEach : Option (List Formulas) → Type 0
IfEach None = Unit {0}
IfEach (Some ls) = EachSteady ls

opened-steady : (f : Formula) → IsSteady f false → AreSteady (opened f) true
opened-steady (every gs) h = h.0
opened-steady (truth_value b) h = absurd h
opened-steady (row f) h = (h, tt)
opened-steady (equal f) h = (h, tt)
opened-steady (bool_var v) h = (h, tt)
opened-steady (at l) h = (h, tt)
opened-steady (negation f) h = (h, tt)
opened-steady (some gs) h = absurd h

in_place-steady : (before gs behind : Formulas) → AreSteady before true → AreSteady gs false → AreSteady behind true → EachSteady (in_place before gs behind)
in_place-steady before none behind h k l = tt
in_place-steady before (more g gs) behind h k l =
    (append-steady true before (append (opened g) behind) h (append-steady true (opened g) behind (opened-steady g k.0) l), in_place-steady before gs behind h k.1 l)

disjuncts-steady : (f : Formula) → IsSteady f true → IfSteady false (disjuncts_of f)
disjuncts-steady (some gs) h = h.0
disjuncts-steady (every gs) h = tt
disjuncts-steady (truth_value b) h = tt
disjuncts-steady (row f) h = tt
disjuncts-steady (equal f) h = tt
disjuncts-steady (bool_var v) h = tt
disjuncts-steady (at l) h = tt
disjuncts-steady (negation f) h = tt

by-steady : (before : Formulas) (k : ℕ) (behind : Formulas) (further : ℕ → Option (List Formulas)) (o : Option Formulas) → AreSteady before true → IfSteady false o → AreSteady behind true → ((j : ℕ) → IfEach (further j)) → IfEach (split_by before k behind further o)
by-steady before k behind further None h g l r = r k
by-steady before k behind further (Some gs) h g l r = by_test (k == 0)
  where
    by_test : (b : Bool) → IfEach (if b then Some (in_place before gs behind) else further (k - 1))
    by_test true = in_place-steady before gs behind h g l
    by_test false = r (k - 1)

split-steady : (fs before : Formulas) (k : ℕ) → AreSteady before true → AreSteady fs true → IfEach (split_from before k fs)
split-steady none before k h g = tt
split-steady (more f fs) before k h g =
    by-steady before k fs (λ j. split_from (append before (more f none)) j fs) (disjuncts_of f) h (disjuncts-steady f g.0) g.1
    (λ j. split-steady fs (append before (more f none)) j (append-steady true before (more f none) h (g.0, tt)) g.1)

splits-steady : (p : Problem) (ls : List Formulas) → EachSteady ls → AllSteady (split_problems p ls)
splits-steady p [] h = tt
splits-steady p (fs ∷ rest) h = (h.0, splits-steady p rest h.1)

pub division-steady : (k : Setting) (p : Problem) (fs : Formulas) (s : Step) (ps : List Problem) → IsNoCut s → AreSteady fs true → divided_into k p fs s ≡ Some ps → AllSteady ps
division-steady k p fs (by_case c) ps n h e = by_test (may_case k.control p.cases c) e
  where
    by_test : (b : Bool) → (if b then Some (case_problems k.control p fs c (component_at k.control.components c).alternatives) else None) ≡ Some ps → AllSteady ps
    by_test true e = let same : case_problems k.control p fs c (component_at k.control.components c).alternatives ≡ ps = cc in subst AllSteady same (cases-steady k.control p fs c (component_at k.control.components c).alternatives h)
    by_test false e = absurd (cc)
division-steady k p fs (by_truth v) ps n h e = by_test (may_truth k.variables p.truths v) e
  where
    by_test : (b : Bool) → (if b then Some (truth_problem k.control p fs v true ∷ truth_problem k.control p fs v false ∷ []) else None) ≡ Some ps → AllSteady ps
    by_test true e =
        let same : truth_problem k.control p fs v true ∷ truth_problem k.control p fs v false ∷ [] ≡ ps = cc in
        subst AllSteady same (posed-steady k.control p.cases (slice_set p.truths v (Some true)) fs h, (posed-steady k.control p.cases (slice_set p.truths v (Some false)) fs h, tt))
    by_test false e = absurd (cc)
division-steady k p fs (by_split i) ps n h e = by_lists (split_from none i fs) (split-steady fs none i tt h) e
  where
    by_lists : (o : Option (List Formulas)) → IfEach o → option_map (split_problems p) o ≡ Some ps → AllSteady ps
    by_lists None g e = absurd (cc)
    by_lists (Some ls) g e = let same : split_problems p ls ≡ ps = cc in subst AllSteady same (splits-steady p ls g)
division-steady k p fs (by_cut f) ps n h e = absurd n
