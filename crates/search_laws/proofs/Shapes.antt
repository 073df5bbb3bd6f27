-- The shape of conjuncts, once simplified: rows, equations, literals, and disjunctions of such and of conjunctions of
-- such. It stays through every division. Each form on the way meets what the condition's forms meet.
use Rattle.std.proofs.Common.{◌≡◌, ℕ, ◌-◌, Bool, true, false, List, [], ◌∷◌, refl, Option, Some, None, ℤ, pos}
use Rattle.std.specs.Prelude.{not, ◌==◌, if◌then◌else◌, option_and_then, int_le, slice_set}
use Rattle.std.specs.Option.{option_map}
use Rattle.st_linear.specs.Linear.{Linear}
use Rattle.st_linear.specs.Simple.{common_divisor, divided, complement, lowered, negated}
use Rattle.st_form.specs.Formula.{Formula, Formulas, truth_value, row, equal, bool_var, at, negation, every, some, none, more, is_zero}
use Rattle.st_form.specs.Simple.{Decided, nothing, is_constant, leads_negative, simple_row, simple_equal, simple_apart, leading, divides_constant, append, parts, gathered, closed, joined_parts, literal, simple, simples, opened}
use Rattle.control_states.specs.declared.alternative.Alternative.{Alternative}
use Rattle.control_states.specs.Control.{ControlFacts}
use Rattle.farkas_check.specs.Problem.{Setting, Problem, posed, decided_by, case_problems, truth_problem, disjuncts_of, split_by, in_place, split_from, split_problems, first_problem}
use Rattle.farkas_check.specs.Limits.{IsLiteral}
use Rattle.search_laws.specs.Forms.{AllForms, AllFormsOf}
use Rattle.search_laws.proofs.Walking.{AllOf}

-- what simplification makes of a form keeps what is so of it
pub record Keeps (Q : Linear → Type 0) : Type 0 where
  pub divided : (f : Linear) → Q f → Q (divided (common_divisor f.entries) f)
  pub negated : (f : Linear) → Q f → Q (negated f)
  pub lowered : (f : Linear) → Q f → Q (lowered f)
  pub complement : (f : Linear) → Q f → Q (complement f)

abbrev mutual
  -- a part of a conjunction, or of a disjunction
  pub IsPart : (Linear → Type 0) → Formula → Bool → Type 0
  IsPart Q (truth_value b) all = ⊥
  IsPart Q (row f) all = Q f
  IsPart Q (equal f) all = Q f
  IsPart Q (bool_var v) all = Unit {0}
  IsPart Q (at l) all = Unit {0}
  IsPart Q (negation f) all = IsLiteral f
  IsPart Q (every fs) true = ⊥
  IsPart Q (every fs) false = AreParts Q fs true
  IsPart Q (some fs) true = AreParts Q fs false
  IsPart Q (some fs) false = ⊥

  pub AreParts : (Linear → Type 0) → Formulas → Bool → Type 0
  AreParts Q none all = Unit {0}
  AreParts Q (more f fs) all = IsPart Q f all × AreParts Q fs all

-- a simplified formula
abbrev pub IsWhole : (Linear → Type 0) → Formula → Type 0
IsWhole Q (truth_value b) = Unit {0}
IsWhole Q (row f) = Q f
IsWhole Q (equal f) = Q f
IsWhole Q (bool_var v) = Unit {0}
IsWhole Q (at l) = Unit {0}
IsWhole Q (negation f) = IsLiteral f
IsWhole Q (every fs) = AreParts Q fs true
IsWhole Q (some fs) = AreParts Q fs false

abbrev pub AreWhole : (Linear → Type 0) → Formulas → Type 0
AreWhole Q none = Unit {0}
AreWhole Q (more f fs) = IsWhole Q f × AreWhole Q fs

abbrev pub IfParts : (Linear → Type 0) → Bool → Option Formulas → Type 0
IfParts Q all None = Unit {0}
IfParts Q all (Some fs) = AreParts Q fs all

-- ---- forms
whole-row : (Q : Linear → Type 0) → Keeps Q → (f : Linear) → Q f → IsWhole Q (simple_row f)
whole-row Q k f h = by_test (is_constant f)
  where
    by_test : (b : Bool) → IsWhole Q (if b then truth_value (int_le (pos 0) f.constant) else row (divided (common_divisor f.entries) f))
    by_test true = tt
    by_test false = k.divided f h

kept-leading : (Q : Linear → Type 0) → Keeps Q → (f : Linear) (b : Bool) → Q f → Q (if b then negated f else f)
kept-leading Q k f true h = k.negated f h
kept-leading Q k f false h = h

whole-equal : (Q : Linear → Type 0) → Keeps Q → (f : Linear) → Q f → IsWhole Q (simple_equal f)
whole-equal Q k f h = by_test (is_constant f) (divides_constant f)
  where
    by_test : (b d : Bool) → IsWhole Q (if b then truth_value (is_zero f.constant) else (if d then equal (leading (divided (common_divisor f.entries) f)) else truth_value false))
    by_test true d = tt
    by_test false true = kept-leading Q k (divided (common_divisor f.entries) f) (leads_negative (divided (common_divisor f.entries) f).entries) (k.divided f h)
    by_test false false = tt

-- the coefficients are those of a form that isn't constant, so the simplified row is none either
row-part : (Q : Linear → Type 0) → Keeps Q → (f : Linear) → Q f → is_constant f ≡ false → IsPart Q (simple_row f) false
row-part Q k f h e = rw e (k.divided f h)

constant-negated : (f : Linear) → is_constant f ≡ false → is_constant (complement f) ≡ false
constant-negated f h = by_entries f.entries refl
  where
    by_entries : (es : List (ℕ × ℤ)) → f.entries ≡ es → is_constant (complement f) ≡ false
    by_entries [] e = absurd (let i = rw e at h in cc)
    by_entries (x ∷ xs) e = rw e refl

whole-apart : (Q : Linear → Type 0) → Keeps Q → (f : Linear) → Q f → IsWhole Q (simple_apart f)
whole-apart Q k f h = by_test (is_constant f) (divides_constant f) refl
  where
    by_test : (b d : Bool) → is_constant f ≡ b → IsWhole Q (if b then truth_value (not (is_zero f.constant)) else (if d then some (more (simple_row (lowered f)) (more (simple_row (complement f)) none)) else truth_value true))
    by_test true d e = tt
    by_test false true e = (row-part Q k (lowered f) (k.lowered f h) e, (row-part Q k (complement f) (k.complement f h) (constant-negated f e), tt))
    by_test false false e = tt

-- ---- lists
append-parts : (Q : Linear → Type 0) (all : Bool) (fs gs : Formulas) → AreParts Q fs all → AreParts Q gs all → AreParts Q (append fs gs) all
append-parts Q all none gs h k = k
append-parts Q all (more f fs) gs h k = (h.0, append-parts Q all fs gs h.1 k)

whole-parts : (Q : Linear → Type 0) (all : Bool) (f : Formula) → IsWhole Q f → IfParts Q all (parts all f)
whole-parts Q true (truth_value true) h = tt
whole-parts Q true (truth_value false) h = tt
whole-parts Q false (truth_value true) h = tt
whole-parts Q false (truth_value false) h = tt
whole-parts Q true (every gs) h = h
whole-parts Q false (every gs) h = (h, tt)
whole-parts Q true (some gs) h = (h, tt)
whole-parts Q false (some gs) h = h
whole-parts Q all (row f) h = (h, tt)
whole-parts Q all (equal f) h = (h, tt)
whole-parts Q all (bool_var v) h = (h, tt)
whole-parts Q all (at l) h = (h, tt)
whole-parts Q all (negation f) h = (h, tt)

joined-parts : (Q : Linear → Type 0) (all : Bool) (o p : Option Formulas) → IfParts Q all o → IfParts Q all p → IfParts Q all (option_and_then (λ gs. option_map (append gs) p) o)
joined-parts Q all None p h k = tt
joined-parts Q all (Some gs) None h k = tt
joined-parts Q all (Some gs) (Some fs) h k = append-parts Q all gs fs h k

pub gathered-parts : (Q : Linear → Type 0) (all : Bool) (fs : Formulas) → AreWhole Q fs → IfParts Q all (gathered all fs)
gathered-parts Q all none h = tt
gathered-parts Q all (more f fs) h = joined-parts Q all (parts all f) (gathered all fs) (whole-parts Q all f h.0) (gathered-parts Q all fs h.1)

part-whole : (Q : Linear → Type 0) (all : Bool) (f : Formula) → IsPart Q f all → IsWhole Q f
part-whole Q all (truth_value b) h = tt
part-whole Q all (row f) h = h
part-whole Q all (equal f) h = h
part-whole Q all (bool_var v) h = h
part-whole Q all (at l) h = h
part-whole Q all (negation f) h = h
part-whole Q true (every fs) h = absurd h
part-whole Q false (every fs) h = h
part-whole Q true (some fs) h = h
part-whole Q false (some fs) h = absurd h

closed-whole : (Q : Linear → Type 0) (all : Bool) (fs : Formulas) → AreParts Q fs all → IsWhole Q (closed all fs)
closed-whole Q all none h = tt
closed-whole Q all (more f none) h = part-whole Q all f h.0
closed-whole Q true (more f (more g fs)) h = h
closed-whole Q false (more f (more g fs)) h = h

joined-whole : (Q : Linear → Type 0) (all : Bool) (o : Option Formulas) → IfParts Q all o → IsWhole Q (joined_parts all o)
joined-whole Q all None h = tt
joined-whole Q all (Some fs) h = closed-whole Q all fs h

literal-whole : (Q : Linear → Type 0) (plus : Bool) (f : Formula) (o : Option Bool) → IsLiteral f → IsWhole Q f → IsWhole Q (literal plus f o)
literal-whole Q true f None h k = k
literal-whole Q false f None h k = h
literal-whole Q plus f (Some b) h k = tt

-- ---- simplified formulas
mutual
  simple-whole : (Q : Linear → Type 0) → Keeps Q → (d : Decided) (f : Formula) (plus : Bool) → AllForms Q f → IsWhole Q (simple d f plus)
  simple-whole Q k d (truth_value b) plus h = tt
  simple-whole Q k d (row f) true h = whole-row Q k f h
  simple-whole Q k d (row f) false h = whole-row Q k (complement f) (k.complement f h)
  simple-whole Q k d (equal f) true h = whole-equal Q k f h
  simple-whole Q k d (equal f) false h = whole-apart Q k f h
  simple-whole Q k d (bool_var v) plus h = literal-whole Q plus (bool_var v) (d.truths v) tt tt
  simple-whole Q k d (at l) plus h = literal-whole Q plus (at l) (d.places l) tt tt
  simple-whole Q k d (negation f) plus h = simple-whole Q k d f (not plus) h
  simple-whole Q k d (every fs) plus h = joined-whole Q plus (gathered plus (simples d fs plus)) (gathered-parts Q plus (simples d fs plus) (simples-whole Q k d fs plus h))
  simple-whole Q k d (some fs) plus h = joined-whole Q (not plus) (gathered (not plus) (simples d fs plus)) (gathered-parts Q (not plus) (simples d fs plus) (simples-whole Q k d fs plus h))

  pub simples-whole : (Q : Linear → Type 0) → Keeps Q → (d : Decided) (fs : Formulas) (plus : Bool) → AllFormsOf Q fs → AreWhole Q (simples d fs plus)
  simples-whole Q k d none plus h = tt
  simples-whole Q k d (more f fs) plus h = (simple-whole Q k d f plus h.0, simples-whole Q k d fs plus h.1)

literal-forms : (Q : Linear → Type 0) (f : Formula) → IsLiteral f → AllForms Q f
literal-forms Q (bool_var v) h = tt
literal-forms Q (at l) h = tt
literal-forms Q (truth_value b) h = tt
literal-forms Q (row f) h = absurd h
literal-forms Q (equal f) h = absurd h
literal-forms Q (negation f) h = absurd h
literal-forms Q (every f) h = absurd h
literal-forms Q (some f) h = absurd h

mutual
  part-forms : (Q : Linear → Type 0) (all : Bool) (f : Formula) → IsPart Q f all → AllForms Q f
  part-forms Q all (truth_value b) h = tt
  part-forms Q all (row f) h = h
  part-forms Q all (equal f) h = h
  part-forms Q all (bool_var v) h = tt
  part-forms Q all (at l) h = tt
  part-forms Q all (negation f) h = literal-forms Q f h
  part-forms Q true (every fs) h = absurd h
  part-forms Q false (every fs) h = parts-forms Q true fs h
  part-forms Q true (some fs) h = parts-forms Q false fs h
  part-forms Q false (some fs) h = absurd h

  pub parts-forms : (Q : Linear → Type 0) (all : Bool) (fs : Formulas) → AreParts Q fs all → AllFormsOf Q fs
  parts-forms Q all none h = tt
  parts-forms Q all (more f fs) h = (part-forms Q all f h.0, parts-forms Q all fs h.1)

-- ---- problems
abbrev pub IsShaped : (Linear → Type 0) → Problem → Type 0
IsShaped Q p = IfParts Q true p.conjuncts

pub first-shaped : (Q : Linear → Type 0) → Keeps Q → (k : Setting) (given shown : Formula) → AllForms Q given → AllForms Q shown → IsShaped Q (first_problem k given shown)
first-shaped Q k s given shown g h =
    let whole : Formula = every (more given (more (negation shown) none)) in
    whole-parts Q true (simple nothing whole true) (simple-whole Q k nothing whole true (g, (h, tt)))

posed-shaped : (Q : Linear → Type 0) → Keeps Q → (k : ControlFacts) (cases : List (Option Alternative)) (truths : List (Option Bool)) (fs : Formulas) → AreParts Q fs true → IsShaped Q (posed k cases truths fs)
posed-shaped Q k c cases truths fs h =
    gathered-parts Q true (simples (decided_by c cases truths) fs true) (simples-whole Q k (decided_by c cases truths) fs true (parts-forms Q true fs h))

pub cases-shaped : (Q : Linear → Type 0) → Keeps Q → (k : ControlFacts) (p : Problem) (fs : Formulas) (c : ℕ) (choices : List Alternative) → AreParts Q fs true → AllOf (IsShaped Q) (case_problems k p fs c choices)
cases-shaped Q q k p fs c [] h = tt
cases-shaped Q q k p fs c (a ∷ rest) h = (posed-shaped Q q k (slice_set p.cases c (Some a)) p.truths fs h, cases-shaped Q q k p fs c rest h)

pub truth-shaped : (Q : Linear → Type 0) → Keeps Q → (k : ControlFacts) (p : Problem) (fs : Formulas) (v : ℕ) (b : Bool) → AreParts Q fs true → IsShaped Q (truth_problem k p fs v b)
truth-shaped Q q k p fs v b h = posed-shaped Q q k p.cases (slice_set p.truths v (Some b)) fs h

abbrev EachParts : (Linear → Type 0) → List Formulas → Type 0
EachParts Q [] = Unit {0}
EachParts Q (fs ∷ rest) = AreParts Q fs true × EachParts Q rest

abbrev IfEach : (Linear → Type 0) → Option (List Formulas) → Type 0
IfEach Q None = Unit {0}
IfEach Q (Some ls) = EachParts Q ls

opened-parts : (Q : Linear → Type 0) (f : Formula) → IsPart Q f false → AreParts Q (opened f) true
opened-parts Q (every gs) h = h
opened-parts Q (truth_value b) h = absurd h
opened-parts Q (row f) h = (h, tt)
opened-parts Q (equal f) h = (h, tt)
opened-parts Q (bool_var v) h = (h, tt)
opened-parts Q (at l) h = (h, tt)
opened-parts Q (negation f) h = (h, tt)
opened-parts Q (some gs) h = absurd h

in_place-parts : (Q : Linear → Type 0) (before gs behind : Formulas) → AreParts Q before true → AreParts Q gs false → AreParts Q behind true → EachParts Q (in_place before gs behind)
in_place-parts Q before none behind h k l = tt
in_place-parts Q before (more g gs) behind h k l =
    (append-parts Q true before (append (opened g) behind) h (append-parts Q true (opened g) behind (opened-parts Q g k.0) l), in_place-parts Q before gs behind h k.1 l)

disjuncts-parts : (Q : Linear → Type 0) (f : Formula) → IsPart Q f true → IfParts Q false (disjuncts_of f)
disjuncts-parts Q (some gs) h = h
disjuncts-parts Q (every gs) h = tt
disjuncts-parts Q (truth_value b) h = tt
disjuncts-parts Q (row f) h = tt
disjuncts-parts Q (equal f) h = tt
disjuncts-parts Q (bool_var v) h = tt
disjuncts-parts Q (at l) h = tt
disjuncts-parts Q (negation f) h = tt

by-parts : (Q : Linear → Type 0) (before : Formulas) (k : ℕ) (behind : Formulas) (further : ℕ → Option (List Formulas)) (o : Option Formulas) → AreParts Q before true → IfParts Q false o → AreParts Q behind true → ((j : ℕ) → IfEach Q (further j)) → IfEach Q (split_by before k behind further o)
by-parts Q before k behind further None h g l r = r k
by-parts Q before k behind further (Some gs) h g l r = by_test (k == 0)
  where
    by_test : (b : Bool) → IfEach Q (if b then Some (in_place before gs behind) else further (k - 1))
    by_test true = in_place-parts Q before gs behind h g l
    by_test false = r (k - 1)

split-parts : (Q : Linear → Type 0) (fs before : Formulas) (k : ℕ) → AreParts Q before true → AreParts Q fs true → IfEach Q (split_from before k fs)
split-parts Q none before k h g = tt
split-parts Q (more f fs) before k h g =
    by-parts Q before k fs (λ j. split_from (append before (more f none)) j fs) (disjuncts_of f) h (disjuncts-parts Q f g.0) g.1
    (λ j. split-parts Q fs (append before (more f none)) j (append-parts Q true before (more f none) h (g.0, tt)) g.1)

splits-shaped : (Q : Linear → Type 0) (p : Problem) (ls : List Formulas) → EachParts Q ls → AllOf (IsShaped Q) (split_problems p ls)
splits-shaped Q p [] h = tt
splits-shaped Q p (fs ∷ rest) h = (h.0, splits-shaped Q p rest h.1)

pub split-shaped : (Q : Linear → Type 0) (p : Problem) (fs : Formulas) (i : ℕ) (ls : List Formulas) → AreParts Q fs true → split_from none i fs ≡ Some ls → AllOf (IsShaped Q) (split_problems p ls)
split-shaped Q p fs i ls h e = splits-shaped Q p ls (let g = split-parts Q fs none i tt h in rw e at g)
