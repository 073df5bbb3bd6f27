-- What is told of a path is the size of what is composed along it.
use Rattle.std.proofs.Common.{◌≡◌, ℕ, ◌+◌, Bool, true, false, cond, nat_le, ◌==◌, List, [], ◌∷◌, ◌++◌, map, refl, ap, sym, ◌∙◌, arith, Option, Some, None, Result, Ok, Err}
use Rattle.std.specs.Prelude.{option_and_then}
use Rattle.std.specs.Option.{option_map}
use Rattle.std.proofs.lemmas.Bool.Decides.{nat_tests}
use Rattle.st_linear.specs.Linear.{Linear, replaced}
use Rattle.st_form.specs.Formula.{Formula, Formulas, truth_value, row, equal, bool_var, at, negation, every, some, none, more, formulas, atoms, atoms_of, weight, weight_of}
use Rattle.st_form.specs.Exchange.{Exchange, exchanged, all_exchanged, truth_for}
use Rattle.st_tokens.specs.declared.limit.LimitKind.TheVariants as limits
use Rattle.st_program.specs.Tree.{Term, number, truth}
use Rattle.st_program.specs.Groups.{Link, tested, given, inserted, signed}
use Rattle.expression_typer.specs.declared.fault.TypeFault.{TypeFault}
use Rattle.expression_typer.specs.declared.fault.TypeFault.TheVariants as faults
use Rattle.spl_typer.specs.declared.measure.Size.{Size}
use Rattle.spl_typer.specs.declared.composing.Side.{Side}
use Rattle.spl_typer.specs.declared.composing.Side.TheVariants as sides
use Rattle.expression_typer.specs.Answers.{◌>>=◌}
use Rattle.spl_typer.specs.Groups.{Numbers, Composition, nothing, large_unless, composed_number, composed_formula, few, term_on, terms_on, put, put_all, met, guarded, link_on, path_on, added, numbers_weight, formulas_weight, truths_weight, with_path, with_paths}
use Rattle.spl_typer.specs.Measured.{capped, size_of, no_size, row_size, both, size_for, sized, all_sized, Measure, no_measure, few_atoms, side_on, sides_on, put_side, put_sides, met_size, atoms_on, few_tests, link_measured, path_measured, tests_weight, values_weight, with_measure, paths_measured}
use Rattle.spl_typer.proofs.Inserting.{inserted-map}

-- two answers that agree
abbrev Alike : {A B : Type 0} → (A → B → Type 0) → Result A TypeFault → Result B TypeFault → Type 0
Alike R (Ok x) (Ok y) = R x y
Alike R (Ok x) (Err g) = ⊥
Alike R (Err f) (Ok y) = ⊥
Alike R (Err f) (Err g) = f ≡ g

both_then : {A B C D : Type 0} (R : A → B → Type 0) (S : C → D → Type 0) (r : Result A TypeFault) (s : Result B TypeFault) (k : A → Result C TypeFault) (l : B → Result D TypeFault)
    → Alike R r s → ((x : A) (y : B) → R x y → Alike S (k x) (l y)) → Alike S (r >>= k) (s >>= l)
both_then R S (Ok x) (Ok y) k l h go = go x y h
both_then R S (Ok x) (Err g) k l h go = absurd h
both_then R S (Err f) (Ok y) k l h go = absurd h
both_then R S (Err f) (Err g) k l h go = h

alike_same : {A : Type 0} (r : Result A TypeFault) → Alike (λ x y. x ≡ y) r r
alike_same (Ok x) = refl
alike_same (Err f) = refl

alike_is : {A : Type 0} (r s : Result A TypeFault) → Alike (λ x y. x ≡ y) r s → s ≡ r
alike_is (Ok x) (Ok y) h = ap Ok (sym h)
alike_is (Ok x) (Err g) h = absurd h
alike_is (Err f) (Ok y) h = absurd h
alike_is (Err f) (Err g) h = ap Err (sym h)

-- sums that stand still
capped_sum : (a b : ℕ) → added (capped a) (capped b) ≡ capped (a + b)
capped_sum a b = omega arith

added_capped : (w k : ℕ) → added w (capped k) ≡ added w k
added_capped w k = omega arith

le_capped : (n : ℕ) → nat_le (capped n) 2048 ≡ nat_le n 2048
le_capped n = go (nat_le n 2048) (nat_le (capped n) 2048) refl refl
  where
    go : (a b : Bool) → nat_le n 2048 ≡ a → nat_le (capped n) 2048 ≡ b → b ≡ a
    go true true h k = refl
    go true false h k = absurd (grind (arith, nat_tests))
    go false true h k = absurd (grind (arith, nat_tests))
    go false false h k = refl

abbrev sum_size : ℕ → ℕ → Size
sum_size a w = record { atoms = capped a; weight = capped w }

same_sum : (a b v w : ℕ) → a ≡ b → v ≡ w → sum_size a v ≡ sum_size b w
same_sum a b v w h k = ap (λ x. sum_size x v) h ∙ ap (sum_size b) k

both_sum : (a w : ℕ) (g : Formula) → both (sum_size a w) (size_of g) ≡ sum_size (a + atoms g) (w + weight g)
both_sum a w g = ap (λ x. record { atoms = x; weight = added (capped w) (capped (weight g)) }) (capped_sum a (atoms g)) ∙ ap (λ x. record { atoms = capped (a + atoms g); weight = x }) (capped_sum w (weight g))

abbrev sizes : List (ℕ × Formula) → List (ℕ × Size)
sizes bs = map (λ p. (p.0, size_of p.1)) bs

abbrev changing : Numbers → List (ℕ × Formula) → Exchange
changing ns bs = record { numbers = ns; truths = bs; leaves = []; enters = [] }

abbrev IsSize : Formula → Size → Type 0
IsSize f s = size_of f ≡ s

size_there : (v : ℕ) (bs : List (ℕ × Formula)) → size_of (truth_for v bs) ≡ size_for v (sizes bs)
size_there v [] = refl
size_there v (p ∷ ps) = go (p.0 == v) (size_there v ps)
  where
    go : (b : Bool) → size_of (truth_for v ps) ≡ size_for v (sizes ps) → size_of (cond b p.1 (truth_for v ps)) ≡ cond b (size_of p.1) (size_for v (sizes ps))
    go true h = refl
    go false h = h

-- how large formulas are together, behind others
abbrev AreSize : ℕ → ℕ → Formulas → Size → Type 0
AreSize a w gs s = sum_size (a + atoms_of gs) (w + weight_of gs) ≡ s

module _ (place : ℕ) (ns : Numbers) (bs : List (ℕ × Formula)) where
  row_told : (k : Linear → Formula) → ((g : Linear) → size_of (k g) ≡ row_size g) → (o : Option Linear) → Alike IsSize (large_unless place (option_map k o)) (large_unless place o >>= λ g. Ok (row_size g))
  row_told k h None = refl
  row_told k h (Some g) = h g

  turned : (o : Option Formula) (r : Result Size TypeFault) → Alike IsSize (large_unless place o) r → Alike IsSize (large_unless place (option_map negation o)) r
  turned None r h = h
  turned (Some g) (Ok s) h = h
  turned (Some g) (Err f) h = h

  chained : (k : Formulas → Formula) → ((gs : Formulas) → size_of (k gs) ≡ sum_size (atoms_of gs) (weight_of gs)) → (o : Option Formulas) (r : Result Size TypeFault) → Alike (AreSize 0 0) (large_unless place o) r → Alike IsSize (large_unless place (option_map k o)) r
  chained k h None r g = g
  chained k h (Some gs) (Ok s) g = h gs ∙ (same_sum (atoms_of gs) (0 + atoms_of gs) (weight_of gs) (0 + weight_of gs) (omega arith) (omega arith) ∙ g)
  chained k h (Some gs) (Err f) g = absurd g

  in_front : (a w : ℕ) (g : Formula) (o : Option Formulas) (r : Result Size TypeFault) → Alike (AreSize (a + atoms g) (w + weight g)) (large_unless place o) r → Alike (AreSize a w) (large_unless place (option_map (more g) o)) r
  in_front a w g None r h = h
  in_front a w g (Some gs) (Ok s) h = same_sum _ _ _ _ (let e : a + (atoms g + atoms_of gs) ≡ a + atoms g + atoms_of gs = omega arith in e) (let e : w + (weight g + weight_of gs) ≡ w + weight g + weight_of gs = omega arith in e) ∙ h
  in_front a w g (Some gs) (Err f) h = absurd h

  followed : (a w : ℕ) (fs : Formulas) (o : Option Formula) (r : Result Size TypeFault) → Alike IsSize (large_unless place o) r
      → ((b v : ℕ) → Alike (AreSize b v) (large_unless place (all_exchanged (changing ns bs) fs)) (all_sized place ns (sizes bs) (sum_size b v) fs))
      → Alike (AreSize a w) (large_unless place (option_and_then (λ g. option_map (more g) (all_exchanged (changing ns bs) fs)) o)) (r >>= λ s. all_sized place ns (sizes bs) (both (sum_size a w) s) fs)
  followed a w fs None (Ok s) h rest = absurd h
  followed a w fs None (Err f) h rest = h
  followed a w fs (Some g) (Err f) h rest = absurd h
  followed a w fs (Some g) (Ok s) h rest =
      rw (sym h, both_sum a w g)
      (in_front a w g (all_exchanged (changing ns bs) fs) (all_sized place ns (sizes bs) (sum_size (a + atoms g) (w + weight g)) fs) (rest (a + atoms g) (w + weight g)))

  mutual
    sized_told : (f : Formula) → Alike IsSize (composed_formula place (changing ns bs) f) (sized place ns (sizes bs) f)
    sized_told (truth_value b) = refl
    sized_told (row f) = row_told row (λ g. refl) (replaced ns f)
    sized_told (equal f) = row_told equal (λ g. refl) (replaced ns f)
    sized_told (bool_var v) = size_there v bs
    sized_told (at l) = refl
    sized_told (negation f) = turned (exchanged (changing ns bs) f) (sized place ns (sizes bs) f) (sized_told f)
    sized_told (every fs) = chained every (λ gs. refl) (all_exchanged (changing ns bs) fs) (all_sized place ns (sizes bs) no_size fs) (all_told 0 0 fs)
    sized_told (some fs) = chained some (λ gs. refl) (all_exchanged (changing ns bs) fs) (all_sized place ns (sizes bs) no_size fs) (all_told 0 0 fs)

    all_told : (a w : ℕ) (fs : Formulas) → Alike (AreSize a w) (large_unless place (all_exchanged (changing ns bs) fs)) (all_sized place ns (sizes bs) (sum_size a w) fs)
    all_told a w none = same_sum (a + 0) a (w + 0) w (omega arith) (omega arith)
    all_told a w (more f fs) = followed a w fs (exchanged (changing ns bs) f) (sized place ns (sizes bs) f) (sized_told f) (λ b v. all_told b v fs)

few_told : (place : ℕ) (f : Formula) (s : Size) → size_of f ≡ s → Alike IsSize (few place f) (few_atoms place s)
few_told place f s h = rw (sym h, le_capped (atoms f)) (go (nat_le (atoms f) 2048))
  where
    go : (b : Bool) → Alike IsSize (cond b (Ok f) (Err (faults.Limit limits.Atoms place))) (cond b (Ok (size_of f)) (Err (faults.Limit limits.Atoms place)))
    go true = refl
    go false = refl

abbrev side_of : Term → Side
side_of (number f) = sides.Number f
side_of (truth f) = sides.Truth (size_of f)

abbrev sides_of : List (ℕ × Term) → List (ℕ × Side)
sides_of xs = map (λ p. (p.0, side_of p.1)) xs

-- what is told of what is composed
record Told (c : Composition) (m : Measure) : Type 0 where
  truths : List (ℕ × Formula)
  change : c.change ≡ changing m.numbers truths
  told : sizes truths ≡ m.truths
  tests : map size_of c.tests ≡ m.tests

formula_told : (place : ℕ) (c : Composition) (m : Measure) (f : Formula) → Told c m → Alike IsSize (composed_formula place c.change f) (sized place m.numbers m.truths f)
formula_told place c m f h = rw (h.change, sym h.told) (sized_told place m.numbers h.truths f)

term_told : (place : ℕ) (c : Composition) (m : Measure) (x : Term) → Told c m → Alike (λ t s. side_of t ≡ s) (term_on place c.change x) (side_on place m x)
term_told place c m (number f) h =
    rw h.change
    (both_then (λ x y. x ≡ y) (λ t s. side_of t ≡ s) (composed_number place m.numbers f) (composed_number place m.numbers f) _ _ (alike_same (composed_number place m.numbers f)) (λ x y e. ap sides.Number e))
term_told place c m (truth f) h =
    both_then IsSize (λ t s. side_of t ≡ s) (composed_formula place c.change f) (sized place m.numbers m.truths f) _ _ (formula_told place c m f h)
    (λ g s e. both_then IsSize (λ t s. side_of t ≡ s) (few place g) (few_atoms place s) _ _ (few_told place g s e) (λ g s e. ap sides.Truth e))

sides_behind : (done : List (ℕ × Term)) (v : ℕ) (t : Term) → sides_of (done ++ (v, t) ∷ []) ≡ sides_of done ++ (v, side_of t) ∷ []
sides_behind [] v t = refl
sides_behind (x ∷ xs) v t = ap (λ l. (x.0, side_of x.1) ∷ l) (sides_behind xs v t)

terms_told : (place : ℕ) (c : Composition) (m : Measure) (done xs : List (ℕ × Term)) → Told c m → Alike (λ ts ss. sides_of ts ≡ ss) (terms_on place c.change done xs) (sides_on place m (sides_of done) xs)
terms_told place c m done [] h = refl
terms_told place c m done (x ∷ xs) h =
    both_then (λ t s. side_of t ≡ s) (λ ts ss. sides_of ts ≡ ss) (term_on place c.change x.1) (side_on place m x.1) _ _ (term_told place c m x.1 h)
    (λ t s e. rw (sym e, sym (sides_behind done x.0 t)) (terms_told place c m (done ++ (x.0, t) ∷ []) xs h))

put_told : (v : ℕ) (t : Term) (c : Composition) (m : Measure) → Told c m → Told (put v t c) (put_side v (side_of t) m)
put_told v (number f) c m h = record {
  truths = h.truths;
  change = ap (λ (e : Exchange). record { numbers = inserted v f e.numbers; truths = e.truths; leaves = e.leaves; enters = e.enters }) h.change;
  told = h.told;
  tests = h.tests;
}
put_told v (truth f) c m h = record {
  truths = inserted v f h.truths;
  change = ap (λ (e : Exchange). record { numbers = e.numbers; truths = inserted v f e.truths; leaves = e.leaves; enters = e.enters }) h.change;
  told = inserted-map size_of v f h.truths ∙ ap (inserted v (size_of f)) h.told;
  tests = h.tests;
}

puts_told : (xs : List (ℕ × Term)) (c : Composition) (m : Measure) → Told c m → Told (put_all xs c) (put_sides (sides_of xs) m)
puts_told [] c m h = h
puts_told (x ∷ xs) c m h = puts_told xs (put x.0 x.1 c) (put_side x.0 (side_of x.1) m) (put_told x.0 x.1 c m h)

test_behind : (ts : List Formula) (f : Formula) → map size_of (ts ++ f ∷ []) ≡ map size_of ts ++ size_of f ∷ []
test_behind [] f = refl
test_behind (t ∷ ts) f = ap (λ l. size_of t ∷ l) (test_behind ts f)

signed_size : (b : Bool) (f : Formula) → size_of (signed b f) ≡ size_of f
signed_size true f = refl
signed_size false f = refl

met_told : (b : Bool) (f : Formula) (s : Size) (c : Composition) (m : Measure) → size_of f ≡ s → Told c m → Told (met (signed b f) c) (met_size s m)
met_told b f s c m e h = record {
  truths = h.truths;
  change = h.change;
  told = h.told;
  tests = test_behind c.tests (signed b f) ∙ (ap (λ l. l ++ size_of (signed b f) ∷ []) h.tests ∙ ap (λ x. m.tests ++ x ∷ []) (signed_size b f ∙ e));
}

atoms_told : (n : ℕ) (ts : List Formula) → atoms_on (capped n) (map size_of ts) ≡ capped (n + atoms_of (formulas ts))
atoms_told n [] = omega arith
atoms_told n (t ∷ ts) = ap (λ k. atoms_on k (map size_of ts)) (capped_sum n (atoms t)) ∙ (atoms_told (n + atoms t) ts ∙ ap capped (let e : n + atoms t + atoms_of (formulas ts) ≡ n + (atoms t + atoms_of (formulas ts)) = omega arith in e))

tests_le : (ts : List Formula) → nat_le (atoms_on 0 (map size_of ts)) 2048 ≡ nat_le (atoms_of (formulas ts)) 2048
tests_le ts = ap (λ k. nat_le k 2048) (atoms_told 0 ts) ∙ le_capped (0 + atoms_of (formulas ts)) ∙ ap (λ k. nat_le k 2048) (let e : 0 + atoms_of (formulas ts) ≡ atoms_of (formulas ts) = omega arith in e)

guarded_told : (place : ℕ) (c : Composition) (m : Measure) → Told c m → Alike Told (guarded place c) (few_tests place m)
guarded_told place c m h = rw (ap (λ l. nat_le (atoms_on 0 l) 2048) (sym h.tests) ∙ tests_le c.tests) (go (nat_le (atoms_of (formulas c.tests)) 2048))
  where
    go : (b : Bool) → Alike Told (cond b (Ok c) (Err (faults.Limit limits.Atoms place))) (cond b (Ok m) (Err (faults.Limit limits.Atoms place)))
    go true = h
    go false = refl

link_told : (place : ℕ) (link : Link) (c : Composition) (m : Measure) → Told c m → Alike Told (link_on place link c) (link_measured place link m)
link_told place (tested f b) c m h =
    both_then IsSize Told (composed_formula place c.change f) (sized place m.numbers m.truths f) _ _ (formula_told place c m f h)
    (λ g s e. guarded_told place (met (signed b g) c) (met_size s m) (met_told b g s c m e h))
link_told place (given xs) c m h =
    both_then (λ ts ss. sides_of ts ≡ ss) Told (terms_on place c.change [] xs) (sides_on place m [] xs) _ _ (terms_told place c m [] xs h)
    (λ ts ss e. rw (sym e) (puts_told ts c m h))

path_told : (place : ℕ) (path : List Link) (c : Composition) (m : Measure) → Told c m → Alike Told (path_on place path c) (path_measured place path m)
path_told place [] c m h = h
path_told place (link ∷ path) c m h =
    both_then Told Told (link_on place link c) (link_measured place link m) _ _ (link_told place link c m h) (λ d n k. path_told place path d n k)

tests_weight_is : (w : ℕ) (ts : List Formula) → tests_weight w (map size_of ts) ≡ formulas_weight w ts
tests_weight_is w [] = refl
tests_weight_is w (t ∷ ts) = ap (λ v. tests_weight v (map size_of ts)) (added_capped w (weight t)) ∙ tests_weight_is (added w (weight t)) ts

values_weight_is : (w : ℕ) (bs : List (ℕ × Formula)) → values_weight w (sizes bs) ≡ truths_weight w bs
values_weight_is w [] = refl
values_weight_is w (x ∷ xs) = ap (λ v. values_weight v (sizes xs)) (added_capped w (weight x.1)) ∙ values_weight_is (added w (weight x.1)) xs

weight_told : (w : ℕ) (c : Composition) (m : Measure) → Told c m → with_path w c ≡ with_measure w m
weight_told w c m h =
    rw (h.change, sym h.told, sym h.tests)
    (sym (values_weight_is (numbers_weight (formulas_weight w c.tests) m.numbers) h.truths) ∙ ap (λ v. values_weight (numbers_weight v m.numbers) (sizes h.truths)) (sym (tests_weight_is w c.tests)))

paths_told : (place : ℕ) (paths : List (List Link)) (w : ℕ) → Alike (λ v u. v ≡ u) (with_paths place paths w) (paths_measured place paths w)
paths_told place [] w = refl
paths_told place (path ∷ paths) w =
    both_then Told (λ v u. v ≡ u) (path_on place path nothing) (path_measured place path no_measure) _ _
    (path_told place path nothing no_measure (record { truths = []; change = refl; told = refl; tests = refl }))
    (λ c m h. rw (weight_told w c m h) (paths_told place paths (with_measure w m)))

pub paths_are : (place : ℕ) (paths : List (List Link)) (w : ℕ) → paths_measured place paths w ≡ with_paths place paths w
paths_are place paths w = alike_is (with_paths place paths w) (paths_measured place paths w) (paths_told place paths w)

pub ruleset measured = (paths_are)
