-- The simplified formula is true in the same situations.
use Rattle.std.proofs.Common.{◌≡◌, ◌≢◌, ℕ, zero, suc, ◌*◌, ◌%◌, ◌<◌, ◌≤◌, Bool, true, false, List, [], ◌∷◌, refl, ap, ◌∙◌, sym, subst, Option, Some, None, arith, ℤ, pos, negsuc, ◌+ℤ◌, ◌*ℤ◌, neg_ℤ}
use Rattle.std.specs.Prelude.{not, ◌&&◌, ◌||◌, ◌==◌, int_le, unsigned_abs, option_and_then, if◌then◌else◌}
use Rattle.std.specs.Option.{option_map}
use Prim.Native.Nat.{◌∣◌}
use Rattle.std.specs.Int.{int_div_euclid}
use Rattle.std.proofs.lemmas.Int.{ints, unsigned_abs-mul}
use Rattle.std.proofs.lemmas.Bool.{false≢true}
use Rattle.std.proofs.lemmas.Bool.Decides.{nat_tests}
use Rattle.std.proofs.lemmas.Nat.Gcd.{dvd_of_mod-eq-zero, mod-eq-zero_of_dvd}
use Rattle.std.proofs.Math.Nat.{dvd-mul_left, mul-le-mul_right}
use Rattle.std.proofs.Math.IntN.{zero-*ℤ}
use Rattle.st_linear.specs.Linear.{Linear, value, entries_value}
use Rattle.st_linear.specs.Simple.{common_divisor, divided, complement, lowered, negated}
use Rattle.st_linear.proofs.Ints.{+ℤ-*ℤ}
use Rattle.st_linear.proofs.Dividing.{sign-divided, common_divisor-divides, value-negated, value-complement, value-lowered, value-divided_whole, value-divided, quotient-rest, rest_of, rest_of-lt}
use Rattle.st_form.specs.Formula.{Formula, Formulas, truth_value, row, equal, bool_var, at, negation, every, some, none, more, Situation, truth, every_truth, some_truth, is_zero}
use Rattle.st_form.specs.Simple.{leads_negative, simple_row, simple_equal, simple_apart, leading, divides_constant, append, parts, gathered, closed, joined_parts, signed, literal, simple, simples, Decided, Agrees, nothing, under}
use Rattle.basic_laws.proofs.Numbers.{suc_positive}
use Rattle.basic_laws.proofs.Truths.{and_assoc, and_true, or_false}

not_negative-complement : (z : ℤ) → int_le (pos 0) (neg_ℤ z +ℤ negsuc 0) ≡ not (int_le (pos 0) z)
not_negative-complement (pos zero) = refl
not_negative-complement (pos (suc n)) = grind (arith, ints)
not_negative-complement (negsuc n) = grind (arith, ints)

apart : (z : ℤ) → (int_le (pos 0) (z +ℤ negsuc 0) || int_le (pos 0) (neg_ℤ z +ℤ negsuc 0)) ≡ not (is_zero z)
apart (pos zero) = refl
apart (pos (suc n)) = grind (arith, ints)
apart (negsuc n) = grind (arith, ints)

is_zero-apart : (z : ℤ) → z ≢ pos 0 → is_zero z ≡ false
is_zero-apart (pos zero) h = absurd (h refl)
is_zero-apart (pos (suc n)) h = grind (arith, nat_tests)
is_zero-apart (negsuc n) h = refl

-- numbers that are 0 in the same cases
is_zero-same : (y z : ℤ) → (y ≡ pos 0 → z ≡ pos 0) → (z ≡ pos 0 → y ≡ pos 0) → is_zero y ≡ is_zero z
is_zero-same (pos zero) z h k = let e = h refl in rw e
is_zero-same (pos (suc n)) z h k = is_zero-apart (pos (suc n)) (λ e. cc) ∙ sym (is_zero-apart z (λ e. let f = k e in absurd (omega (arith, ints, f))))
is_zero-same (negsuc n) z h k = sym (is_zero-apart z (λ e. let f = k e in absurd (omega (arith, ints, f))))

times_zero : (z : ℤ) (d : ℕ) → 0 < d → z *ℤ pos d ≡ pos 0 → z ≡ pos 0
times_zero (pos zero) d h k = refl
times_zero (pos (suc n)) d h k = absurd (omega (arith, ints, k, mul-le-mul_right d (suc_positive n)))
times_zero (negsuc n) d h k = absurd (omega (arith, ints, k, mul-le-mul_right d (suc_positive n)))

is_zero-neg : (z : ℤ) → is_zero (neg_ℤ z) ≡ is_zero z
is_zero-neg z = is_zero-same (neg_ℤ z) z (λ h. omega (arith, ints, h)) (λ h. omega (arith, ints, h))

is_zero-times : (z : ℤ) (d : ℕ) → 0 < d → is_zero (z *ℤ pos d) ≡ is_zero z
is_zero-times z d h = is_zero-same (z *ℤ pos d) z (times_zero z d h) (λ k. ap (λ x. x *ℤ pos d) k ∙ zero-*ℤ (pos d))

-- ---- rows
row_truth : (s : Situation) (c : ℤ) (es : List (ℕ × ℤ)) → truth s (simple_row (record { constant = c; entries = es })) ≡ int_le (pos 0) (value s.numbers (record { constant = c; entries = es }))
row_truth s c [] = let e : c ≡ c +ℤ pos 0 = omega (arith, ints) in ap (int_le (pos 0)) e
row_truth s c (e ∷ es) = let d = common_divisor-divides (e ∷ es) in sign-divided s.numbers (common_divisor (e ∷ es)) (record { constant = c; entries = e ∷ es }) d.0 d.1

pub truth-simple_row : (s : Situation) (f : Linear) → truth s (simple_row f) ≡ int_le (pos 0) (value s.numbers f)
truth-simple_row s f = row_truth s f.constant f.entries

leading_truth : (s : Situation) (f : Linear) (b : Bool) → is_zero (value s.numbers (if b then negated f else f)) ≡ is_zero (value s.numbers f)
leading_truth s f true = ap is_zero (value-negated s.numbers f) ∙ is_zero-neg (value s.numbers f)
leading_truth s f false = refl

-- ---- equations
test_zero : (n : ℕ) → (n == 0) ≡ true → n ≡ 0
test_zero n h = grind (arith, nat_tests)

zero_test : (n : ℕ) → n ≡ 0 → (n == 0) ≡ true
zero_test n h = grind (arith, nat_tests)

rest_from_zero : (w : ℤ) (d r : ℕ) → r < d → w *ℤ pos d +ℤ pos r ≡ pos 0 → r ≡ 0
rest_from_zero (pos n) d r h k = omega (arith, ints, k)
rest_from_zero (negsuc n) d r h k = absurd (omega (arith, ints, k, mul-le-mul_right d (suc_positive n)))

-- a form whose divisor does not divide its constant is never 0
never_zero : (s : Situation) (f : Linear) → divides_constant f ≡ false → is_zero (value s.numbers f) ≡ false
never_zero s f h =
    let d : ℕ = common_divisor f.entries in
    let good = common_divisor-divides f.entries in
    let q : ℤ = int_div_euclid f.constant (pos d) in
    let rest : ℤ = entries_value s.numbers (divided d f).entries in
    let whole : value s.numbers f ≡ (q +ℤ rest) *ℤ pos d +ℤ pos (rest_of f.constant d) =
    omega (arith, ints, quotient-rest f.constant d good.0, value-divided s.numbers d f.entries good.0 good.1, +ℤ-*ℤ q rest (pos d)) in
    is_zero-apart (value s.numbers f) (λ zero'.
    let none_left = rest_from_zero (q +ℤ rest) d (rest_of f.constant d) (rest_of-lt f.constant d good.0) (sym whole ∙ zero') in
    let exact : q *ℤ pos d ≡ f.constant = omega (arith, ints, quotient-rest f.constant d good.0, none_left) in
    let size : unsigned_abs q * d ≡ unsigned_abs f.constant = sym (unsigned_abs-mul q (pos d)) ∙ ap unsigned_abs exact in
    let divides : d ∣ unsigned_abs f.constant = subst (λ (n : ℕ). d ∣ n) size (dvd-mul_left d (unsigned_abs q)) in
    let passes = zero_test (unsigned_abs f.constant % d) (mod-eq-zero_of_dvd d divides) in
    absurd (false≢true (sym h ∙ passes)))

divided_zero : (s : Situation) (f : Linear) → divides_constant f ≡ true → is_zero (value s.numbers (divided (common_divisor f.entries) f)) ≡ is_zero (value s.numbers f)
divided_zero s f h =
    let d : ℕ = common_divisor f.entries in
    let good = common_divisor-divides f.entries in
    let divides = dvd_of_mod-eq-zero d (test_zero (unsigned_abs f.constant % d) h) in
    sym (is_zero-times (value s.numbers (divided d f)) d good.0) ∙ ap is_zero (value-divided_whole s.numbers d f good.0 good.1 divides)

by_divisor : (s : Situation) (f : Linear) (b : Bool) → divides_constant f ≡ b → truth s (if b then equal (leading (divided (common_divisor f.entries) f)) else truth_value false) ≡ is_zero (value s.numbers f)
by_divisor s f true h = leading_truth s (divided (common_divisor f.entries) f) (leads_negative (divided (common_divisor f.entries) f).entries) ∙ divided_zero s f h
by_divisor s f false h = sym (never_zero s f h)

equal_truth : (s : Situation) (c : ℤ) (es : List (ℕ × ℤ)) → truth s (simple_equal (record { constant = c; entries = es })) ≡ is_zero (value s.numbers (record { constant = c; entries = es }))
equal_truth s c [] = let e : c ≡ c +ℤ pos 0 = omega (arith, ints) in ap is_zero e
equal_truth s c (e ∷ es) = let f : Linear = record { constant = c; entries = e ∷ es } in by_divisor s f (divides_constant f) refl

two_sides : (s : Situation) (f : Linear) → truth s (some (more (simple_row (lowered f)) (more (simple_row (complement f)) none))) ≡ not (is_zero (value s.numbers f))
two_sides s f =
    let z : ℤ = value s.numbers f in
    let above : truth s (simple_row (lowered f)) ≡ int_le (pos 0) (z +ℤ negsuc 0) = truth-simple_row s (lowered f) ∙ ap (int_le (pos 0)) (value-lowered s.numbers f) in
    let below : truth s (simple_row (complement f)) ≡ int_le (pos 0) (neg_ℤ z +ℤ negsuc 0) = truth-simple_row s (complement f) ∙ ap (int_le (pos 0)) (value-complement s.numbers f) in
    ap (λ b. truth s (simple_row (lowered f)) || b) (or_false (truth s (simple_row (complement f)))) ∙ ap (λ b. b || truth s (simple_row (complement f))) above ∙ ap (λ b. int_le (pos 0) (z +ℤ negsuc 0) || b) below ∙ apart z

by_divisor_apart : (s : Situation) (f : Linear) (b : Bool) → divides_constant f ≡ b → truth s (if b then some (more (simple_row (lowered f)) (more (simple_row (complement f)) none)) else truth_value true) ≡ not (is_zero (value s.numbers f))
by_divisor_apart s f true h = two_sides s f
by_divisor_apart s f false h = ap not (sym (never_zero s f h))

apart_truth : (s : Situation) (c : ℤ) (es : List (ℕ × ℤ)) → truth s (simple_apart (record { constant = c; entries = es })) ≡ not (is_zero (value s.numbers (record { constant = c; entries = es })))
apart_truth s c [] = let e : c ≡ c +ℤ pos 0 = omega (arith, ints) in ap (λ z. not (is_zero z)) e
apart_truth s c (e ∷ es) = let f : Linear = record { constant = c; entries = e ∷ es } in by_divisor_apart s f (divides_constant f) refl

or_assoc : (a b c : Bool) → (a || (b || c)) ≡ ((a || b) || c)
or_assoc true b c = refl
or_assoc false b c = refl

abbrev pub all_of : Bool → Situation → Formulas → Bool
all_of true s fs = every_truth s fs
all_of false s fs = some_truth s fs

abbrev pub with_part : Bool → Bool → Bool → Bool
with_part true a b = a && b
with_part false a b = a || b

pub append_truth : (all : Bool) (s : Situation) (fs gs : Formulas) → all_of all s (append fs gs) ≡ with_part all (all_of all s fs) (all_of all s gs)
append_truth true s none gs = refl
append_truth false s none gs = refl
append_truth true s (more f fs) gs = ap (λ b. truth s f && b) (append_truth true s fs gs) ∙ and_assoc (truth s f) (every_truth s fs) (every_truth s gs)
append_truth false s (more f fs) gs = ap (λ b. truth s f || b) (append_truth false s fs gs) ∙ or_assoc (truth s f) (some_truth s fs) (some_truth s gs)

-- what the gathered parts say, or what decides
abbrev pub said : Bool → Situation → Option Formulas → Bool
said all s None = not all
said all s (Some fs) = all_of all s fs

pub part_truth : (all : Bool) (s : Situation) (f : Formula) → said all s (parts all f) ≡ truth s f
part_truth true s (truth_value true) = refl
part_truth true s (truth_value false) = refl
part_truth false s (truth_value true) = refl
part_truth false s (truth_value false) = refl
part_truth true s (every fs) = refl
part_truth false s (some fs) = refl
part_truth true s f = and_true (truth s f)
part_truth false s f = or_false (truth s f)

and_false : (a : Bool) → (a && false) ≡ false
and_false true = refl
and_false false = refl

or_true : (a : Bool) → (a || true) ≡ true
or_true true = refl
or_true false = refl

decided : (all b : Bool) → with_part all (not all) b ≡ not all
decided true b = refl
decided false b = refl

join_truth : (all : Bool) (s : Situation) (o p : Option Formulas) → said all s (option_and_then (λ gs. option_map (append gs) p) o) ≡ with_part all (said all s o) (said all s p)
join_truth all s None p = sym (decided all (said all s p))
join_truth true s (Some gs) None = sym (and_false (every_truth s gs))
join_truth false s (Some gs) None = sym (or_true (some_truth s gs))
join_truth all s (Some gs) (Some hs) = append_truth all s gs hs

pub gathered_truth : (all : Bool) (s : Situation) (fs : Formulas) → said all s (gathered all fs) ≡ all_of all s fs
gathered_truth true s none = refl
gathered_truth false s none = refl
gathered_truth true s (more f fs) = join_truth true s (parts true f) (gathered true fs) ∙ rw (part_truth true s f, gathered_truth true s fs)
gathered_truth false s (more f fs) = join_truth false s (parts false f) (gathered false fs) ∙ rw (part_truth false s f, gathered_truth false s fs)

pub closed_truth : (all : Bool) (s : Situation) (fs : Formulas) → truth s (closed all fs) ≡ all_of all s fs
closed_truth true s none = refl
closed_truth false s none = refl
closed_truth true s (more f none) = sym (and_true (truth s f))
closed_truth false s (more f none) = sym (or_false (truth s f))
closed_truth true s (more f (more g fs)) = refl
closed_truth false s (more f (more g fs)) = refl

joined_truth : (all : Bool) (s : Situation) (fs : Formulas) → truth s (joined_parts all (gathered all fs)) ≡ all_of all s fs
joined_truth all s fs = of_parts (gathered all fs) ∙ gathered_truth all s fs
  where
    of_parts : (o : Option Formulas) → truth s (joined_parts all o) ≡ said all s o
    of_parts None = refl
    of_parts (Some gs) = closed_truth all s gs

not_not : (b : Bool) → not (not b) ≡ b
not_not true = refl
not_not false = refl

not_and : (a b : Bool) → (not a || not b) ≡ not (a && b)
not_and true b = refl
not_and false b = refl

not_or : (a b : Bool) → (not a && not b) ≡ not (a || b)
not_or true b = refl
not_or false b = refl

signed_truth : (plus : Bool) (s : Situation) (f : Formula) → truth s (signed plus f) ≡ under plus (truth s f)
signed_truth true s f = refl
signed_truth false s f = refl

literal_truth : (plus : Bool) (s : Situation) (f : Formula) (o : Option Bool) → ((b : Bool) → o ≡ Some b → truth s f ≡ b) → truth s (literal plus f o) ≡ under plus (truth s f)
literal_truth plus s f None h = signed_truth plus s f
literal_truth true s f (Some b) h = sym (h b refl)
literal_truth false s f (Some b) h = ap not (sym (h b refl))

mutual
  -- the simplified formula is true in the same situations, under its sign
  pub truth-simple : (d : Decided) (f : Formula) (plus : Bool) (s : Situation) → Agrees s d → truth s (simple d f plus) ≡ under plus (truth s f)
  truth-simple d (truth_value b) true s a = refl
  truth-simple d (truth_value b) false s a = refl
  truth-simple d (row f) true s a = truth-simple_row s f
  truth-simple d (row f) false s a = truth-simple_row s (complement f) ∙ ap (int_le (pos 0)) (value-complement s.numbers f) ∙ not_negative-complement (value s.numbers f)
  truth-simple d (equal f) true s a = equal_truth s f.constant f.entries
  truth-simple d (equal f) false s a = apart_truth s f.constant f.entries
  truth-simple d (bool_var v) plus s a = literal_truth plus s (bool_var v) (d.truths v) (a.truths v)
  truth-simple d (at l) plus s a = literal_truth plus s (at l) (d.places l) (a.places l)
  truth-simple d (negation f) true s a = truth-simple d f false s a
  truth-simple d (negation f) false s a = truth-simple d f true s a ∙ sym (not_not (truth s f))
  truth-simple d (every fs) true s a = joined_truth true s (simples d fs true) ∙ (truth-simples d fs true s a).0
  truth-simple d (every fs) false s a = joined_truth false s (simples d fs false) ∙ (truth-simples d fs false s a).0
  truth-simple d (some fs) true s a = joined_truth false s (simples d fs true) ∙ (truth-simples d fs true s a).1
  truth-simple d (some fs) false s a = joined_truth true s (simples d fs false) ∙ (truth-simples d fs false s a).1

  pub truth-simples : (d : Decided) (fs : Formulas) (plus : Bool) (s : Situation) → Agrees s d → (all_of plus s (simples d fs plus) ≡ under plus (every_truth s fs)) × (all_of (not plus) s (simples d fs plus) ≡ under plus (some_truth s fs))
  truth-simples d none true s a = (refl, refl)
  truth-simples d none false s a = (refl, refl)
  truth-simples d (more f fs) true s a = let first = truth-simple d f true s a in let rest = truth-simples d fs true s a in (rw (first, rest.0), rw (first, rest.1))
  truth-simples d (more f fs) false s a =
      let first = truth-simple d f false s a in
      let rest = truth-simples d fs false s a in
      (rw (first, rest.0) (not_and (truth s f) (every_truth s fs)), rw (first, rest.1) (not_or (truth s f) (some_truth s fs)))

pub agrees-nothing : (s : Situation) → Agrees s nothing
agrees-nothing s = record { truths = λ v b h. absurd (cc); places = λ l b h. absurd (cc) }
