-- What is so of the literals of a condition stays so, and a simplified formula has no decided literal.
use Rattle.std.proofs.Common.{◌≡◌, ℕ, ◌-◌, Bool, true, false, List, [], ◌∷◌, refl, Option, Some, None, pos}
use Rattle.std.specs.Prelude.{not, ◌==◌, if◌then◌else◌, option_and_then, int_le}
use Rattle.std.specs.Option.{option_map}
use Rattle.st_linear.specs.Linear.{Linear}
use Rattle.st_linear.specs.Simple.{common_divisor, divided, complement, lowered}
use Rattle.st_form.specs.Formula.{Formula, Formulas, truth_value, row, equal, bool_var, at, negation, every, some, none, more, is_zero}
use Rattle.st_form.specs.Simple.{Decided, is_constant, simple_row, simple_equal, simple_apart, leading, divides_constant, append, parts, gathered, closed, joined_parts, literal, simple, simples, opened}
use Rattle.farkas_check.specs.Problem.{disjuncts_of, split_by, in_place, split_from}
use Rattle.search_laws.specs.Moves.{or_else, first_place, first_place_of, first_truth, first_truth_of}
use Rattle.search_laws.specs.Ends.{AllLiterals, AllLiteralsOf, IfLiterals}

abbrev Fact : Type 1
Fact = ℕ → Type 0

mutual
  pub literals-weaker : (L M T U : Fact) → ((l : ℕ) → L l → M l) → ((v : ℕ) → T v → U v) → (f : Formula) → AllLiterals L T f → AllLiterals M U f
  literals-weaker L M T U g k (truth_value b) h = tt
  literals-weaker L M T U g k (row f) h = tt
  literals-weaker L M T U g k (equal f) h = tt
  literals-weaker L M T U g k (bool_var v) h = k v h
  literals-weaker L M T U g k (at l) h = g l h
  literals-weaker L M T U g k (negation f) h = literals-weaker L M T U g k f h
  literals-weaker L M T U g k (every fs) h = all-weaker L M T U g k fs h
  literals-weaker L M T U g k (some fs) h = all-weaker L M T U g k fs h

  pub all-weaker : (L M T U : Fact) → ((l : ℕ) → L l → M l) → ((v : ℕ) → T v → U v) → (fs : Formulas) → AllLiteralsOf L T fs → AllLiteralsOf M U fs
  all-weaker L M T U g k none h = tt
  all-weaker L M T U g k (more f fs) h = (literals-weaker L M T U g k f h.0, all-weaker L M T U g k fs h.1)

-- ---- the first literal
first-else : (L : Fact) (a b : Option ℕ) (l : ℕ) → or_else a b ≡ Some l → (a ≡ Some l → L l) → (b ≡ Some l → L l) → L l
first-else L None b l h f g = g h
first-else L (Some x) b l h f g = f h

some-fact : (L : Fact) (l m : ℕ) → Some l ≡ Some m → L l → L m
some-fact L l m h k = let e : l ≡ m = cc in rw (← e) k

mutual
  place-fact : (L T : Fact) (f : Formula) (l : ℕ) → AllLiterals L T f → first_place f ≡ Some l → L l
  place-fact L T (truth_value b) l h e = absurd (cc)
  place-fact L T (row f) l h e = absurd (cc)
  place-fact L T (equal f) l h e = absurd (cc)
  place-fact L T (bool_var v) l h e = absurd (cc)
  place-fact L T (at m) l h e = some-fact L m l e h
  place-fact L T (negation f) l h e = place-fact L T f l h e
  place-fact L T (every fs) l h e = places-fact L T fs l h e
  place-fact L T (some fs) l h e = places-fact L T fs l h e

  pub places-fact : (L T : Fact) (fs : Formulas) (l : ℕ) → AllLiteralsOf L T fs → first_place_of fs ≡ Some l → L l
  places-fact L T none l h e = absurd (cc)
  places-fact L T (more f fs) l h e = first-else L (first_place f) (first_place_of fs) l e (λ i. place-fact L T f l h.0 i) (λ i. places-fact L T fs l h.1 i)

mutual
  truth-fact : (L T : Fact) (f : Formula) (v : ℕ) → AllLiterals L T f → first_truth f ≡ Some v → T v
  truth-fact L T (truth_value b) v h e = absurd (cc)
  truth-fact L T (row f) v h e = absurd (cc)
  truth-fact L T (equal f) v h e = absurd (cc)
  truth-fact L T (bool_var w) v h e = some-fact T w v e h
  truth-fact L T (at m) v h e = absurd (cc)
  truth-fact L T (negation f) v h e = truth-fact L T f v h e
  truth-fact L T (every fs) v h e = truths-fact L T fs v h e
  truth-fact L T (some fs) v h e = truths-fact L T fs v h e

  pub truths-fact : (L T : Fact) (fs : Formulas) (v : ℕ) → AllLiteralsOf L T fs → first_truth_of fs ≡ Some v → T v
  truths-fact L T none v h e = absurd (cc)
  truths-fact L T (more f fs) v h e = first-else T (first_truth f) (first_truth_of fs) v e (λ i. truth-fact L T f v h.0 i) (λ i. truths-fact L T fs v h.1 i)

-- ---- simplified
row-literals : (L T : Fact) (f : Linear) → AllLiterals L T (simple_row f)
row-literals L T f = by_test (is_constant f)
  where
    by_test : (b : Bool) → AllLiterals L T (if b then truth_value (int_le (pos 0) f.constant) else row (divided (common_divisor f.entries) f))
    by_test true = tt
    by_test false = tt

equal-literals : (L T : Fact) (f : Linear) → AllLiterals L T (simple_equal f)
equal-literals L T f = by_test (is_constant f) (divides_constant f)
  where
    by_test : (b d : Bool) → AllLiterals L T (if b then truth_value (is_zero f.constant) else (if d then equal (leading (divided (common_divisor f.entries) f)) else truth_value false))
    by_test true d = tt
    by_test false true = tt
    by_test false false = tt

apart-literals : (L T : Fact) (f : Linear) → AllLiterals L T (simple_apart f)
apart-literals L T f = by_test (is_constant f) (divides_constant f)
  where
    by_test : (b d : Bool) → AllLiterals L T (if b then truth_value (not (is_zero f.constant)) else (if d then some (more (simple_row (lowered f)) (more (simple_row (complement f)) none)) else truth_value true))
    by_test true d = tt
    by_test false true = (row-literals L T (lowered f), (row-literals L T (complement f), tt))
    by_test false false = tt

append-literals : (L T : Fact) (fs gs : Formulas) → AllLiteralsOf L T fs → AllLiteralsOf L T gs → AllLiteralsOf L T (append fs gs)
append-literals L T none gs h k = k
append-literals L T (more f fs) gs h k = (h.0, append-literals L T fs gs h.1 k)

pub parts-literals : (L T : Fact) (all : Bool) (f : Formula) → AllLiterals L T f → IfLiterals L T (parts all f)
parts-literals L T true (truth_value true) h = tt
parts-literals L T true (truth_value false) h = tt
parts-literals L T false (truth_value true) h = tt
parts-literals L T false (truth_value false) h = tt
parts-literals L T true (every gs) h = h
parts-literals L T false (every gs) h = (h, tt)
parts-literals L T true (some gs) h = (h, tt)
parts-literals L T false (some gs) h = h
parts-literals L T all (row f) h = (h, tt)
parts-literals L T all (equal f) h = (h, tt)
parts-literals L T all (bool_var v) h = (h, tt)
parts-literals L T all (at l) h = (h, tt)
parts-literals L T all (negation f) h = (h, tt)

joined-literals : (L T : Fact) (o p : Option Formulas) → IfLiterals L T o → IfLiterals L T p → IfLiterals L T (option_and_then (λ gs. option_map (append gs) p) o)
joined-literals L T None p h k = tt
joined-literals L T (Some gs) None h k = tt
joined-literals L T (Some gs) (Some fs) h k = append-literals L T gs fs h k

pub gathered-literals : (L T : Fact) (all : Bool) (fs : Formulas) → AllLiteralsOf L T fs → IfLiterals L T (gathered all fs)
gathered-literals L T all none h = tt
gathered-literals L T all (more f fs) h = joined-literals L T (parts all f) (gathered all fs) (parts-literals L T all f h.0) (gathered-literals L T all fs h.1)

closed-literals : (L T : Fact) (all : Bool) (fs : Formulas) → AllLiteralsOf L T fs → AllLiterals L T (closed all fs)
closed-literals L T all none h = tt
closed-literals L T all (more f none) h = h.0
closed-literals L T true (more f (more g fs)) h = h
closed-literals L T false (more f (more g fs)) h = h

whole-literals : (L T : Fact) (all : Bool) (o : Option Formulas) → IfLiterals L T o → AllLiterals L T (joined_parts all o)
whole-literals L T all None h = tt
whole-literals L T all (Some fs) h = closed-literals L T all fs h

-- a literal that isn't decided
abbrev pub Undecided : Fact → (ℕ → Option Bool) → Fact
Undecided L d l = L l × (d l ≡ None)

literal-left : (L T : Fact) (plus : Bool) (f : Formula) (o : Option Bool) → (o ≡ None → AllLiterals L T f) → AllLiterals L T (literal plus f o)
literal-left L T true f None h = h refl
literal-left L T false f None h = h refl
literal-left L T plus f (Some b) h = tt

mutual
  pub simple-literals : (L T : Fact) (d : Decided) (f : Formula) (plus : Bool) → AllLiterals L T f → AllLiterals (Undecided L d.places) (Undecided T d.truths) (simple d f plus)
  simple-literals L T d (truth_value b) plus h = tt
  simple-literals L T d (row f) true h = row-literals (Undecided L d.places) (Undecided T d.truths) f
  simple-literals L T d (row f) false h = row-literals (Undecided L d.places) (Undecided T d.truths) (complement f)
  simple-literals L T d (equal f) true h = equal-literals (Undecided L d.places) (Undecided T d.truths) f
  simple-literals L T d (equal f) false h = apart-literals (Undecided L d.places) (Undecided T d.truths) f
  simple-literals L T d (bool_var v) plus h = literal-left (Undecided L d.places) (Undecided T d.truths) plus (bool_var v) (d.truths v) (λ e. (h, e))
  simple-literals L T d (at l) plus h = literal-left (Undecided L d.places) (Undecided T d.truths) plus (at l) (d.places l) (λ e. (h, e))
  simple-literals L T d (negation f) plus h = simple-literals L T d f (not plus) h
  simple-literals L T d (every fs) plus h =
      whole-literals (Undecided L d.places) (Undecided T d.truths) plus (gathered plus (simples d fs plus)) (gathered-literals (Undecided L d.places) (Undecided T d.truths) plus (simples d fs plus) (simples-literals L T d fs plus h))
  simple-literals L T d (some fs) plus h =
      whole-literals (Undecided L d.places) (Undecided T d.truths) (not plus) (gathered (not plus) (simples d fs plus)) (gathered-literals (Undecided L d.places) (Undecided T d.truths) (not plus) (simples d fs plus) (simples-literals L T d fs plus h))

  pub simples-literals : (L T : Fact) (d : Decided) (fs : Formulas) (plus : Bool) → AllLiteralsOf L T fs → AllLiteralsOf (Undecided L d.places) (Undecided T d.truths) (simples d fs plus)
  simples-literals L T d none plus h = tt
  simples-literals L T d (more f fs) plus h = (simple-literals L T d f plus h.0, simples-literals L T d fs plus h.1)

-- ---- splits
abbrev pub EachLiterals : Fact → Fact → List Formulas → Type 0
EachLiterals L T [] = Unit {0}
EachLiterals L T (fs ∷ rest) = AllLiteralsOf L T fs × EachLiterals L T rest

abbrev pub IfEach : Fact → Fact → Option (List Formulas) → Type 0
IfEach L T None = Unit {0}
IfEach L T (Some ls) = EachLiterals L T ls

opened-literals : (L T : Fact) (f : Formula) → AllLiterals L T f → AllLiteralsOf L T (opened f)
opened-literals L T (every gs) h = h
opened-literals L T (truth_value b) h = (h, tt)
opened-literals L T (row f) h = (h, tt)
opened-literals L T (equal f) h = (h, tt)
opened-literals L T (bool_var v) h = (h, tt)
opened-literals L T (at l) h = (h, tt)
opened-literals L T (negation f) h = (h, tt)
opened-literals L T (some gs) h = (h, tt)

in_place-literals : (L T : Fact) (before gs behind : Formulas) → AllLiteralsOf L T before → AllLiteralsOf L T gs → AllLiteralsOf L T behind → EachLiterals L T (in_place before gs behind)
in_place-literals L T before none behind h k l = tt
in_place-literals L T before (more g gs) behind h k l =
    (append-literals L T before (append (opened g) behind) h (append-literals L T (opened g) behind (opened-literals L T g k.0) l), in_place-literals L T before gs behind h k.1 l)

disjuncts-literals : (L T : Fact) (f : Formula) → AllLiterals L T f → IfLiterals L T (disjuncts_of f)
disjuncts-literals L T (some gs) h = h
disjuncts-literals L T (every gs) h = tt
disjuncts-literals L T (truth_value b) h = tt
disjuncts-literals L T (row f) h = tt
disjuncts-literals L T (equal f) h = tt
disjuncts-literals L T (bool_var v) h = tt
disjuncts-literals L T (at l) h = tt
disjuncts-literals L T (negation f) h = tt

by-literals : (L T : Fact) (before : Formulas) (k : ℕ) (behind : Formulas) (further : ℕ → Option (List Formulas)) (o : Option Formulas) → AllLiteralsOf L T before → IfLiterals L T o → AllLiteralsOf L T behind → ((j : ℕ) → IfEach L T (further j)) → IfEach L T (split_by before k behind further o)
by-literals L T before k behind further None h g l r = r k
by-literals L T before k behind further (Some gs) h g l r = by_test (k == 0)
  where
    by_test : (b : Bool) → IfEach L T (if b then Some (in_place before gs behind) else further (k - 1))
    by_test true = in_place-literals L T before gs behind h g l
    by_test false = r (k - 1)

pub split-literals : (L T : Fact) (fs before : Formulas) (k : ℕ) → AllLiteralsOf L T before → AllLiteralsOf L T fs → IfEach L T (split_from before k fs)
split-literals L T none before k h g = tt
split-literals L T (more f fs) before k h g =
    by-literals L T before k fs (λ j. split_from (append before (more f none)) j fs) (disjuncts_of f) h (disjuncts-literals L T f g.0) g.1
    (λ j. split-literals L T fs (append before (more f none)) j (append-literals L T before (more f none) h (g.0, tt)) g.1)
