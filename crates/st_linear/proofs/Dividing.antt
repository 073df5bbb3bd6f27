-- Common divisors, and division that rounds down.
use Rattle.std.proofs.Common.{◌≡◌, ◌≢◌, ℕ, zero, suc, ◌+◌, ◌-◌, ◌*◌, ◌/◌, ◌%◌, ◌<◌, ◌≤◌, ◌^◌, Bool, true, false, List, [], ◌∷◌, length, drop, get_or, map, inl, inr, refl, ap, ◌∙◌, sym, subst, arith, ℤ, pos, negsuc, ◌+ℤ◌, ◌*ℤ◌, neg_ℤ}
use Rattle.std.specs.Prelude.{IsTrue, if◌then◌else◌, unsigned_abs, int_le}
use Prim.Native.Nat.{◌∣◌}
use Rattle.std.specs.Int.{int_div_euclid, IsGcd}
use Rattle.std.proofs.lemmas.Int.{ints}
use Rattle.std.proofs.lemmas.List.{drop_more}
use Rattle.std.proofs.lemmas.Bool.{and_parts, and_from, cases_lt}
use Rattle.std.proofs.lemmas.Bool.Decides.{nat_tests}
use Rattle.std.proofs.lemmas.Nat.Gcd.{dvd_of_mod-eq-zero, mod-eq-zero_of_dvd, le_of_dvd, dvd_trans, dvd_refl}
use Rattle.std.proofs.Math.Nat.{eq-zero_of_zero-dvd, div-le_self, div-add-mod, mod-lt, dvd-add_iff_right, dvd-mul_left, mul-le-mul_right, one-dvd}
use Rattle.st_linear.specs.Linear.{is_within, Linear, is_small, are_small, AllAbove, AreEntries, value, entries_value}
use Rattle.st_linear.specs.Simple.{divides_all, greatest_up_to, common_divisor, CommonTo, divided, complement, lowered, negated}
use Rattle.st_linear.proofs.Joins.{none}
use Rattle.st_linear.proofs.Ints.{+ℤ-*ℤ, *ℤ_assoc, neg_ℤ-*ℤ}
use Rattle.std.proofs.Math.IntN.{zero-*ℤ, *ℤ_comm}
use Rattle.basic_laws.proofs.Integers.{above_zero}
use Rattle.basic_laws.proofs.Numbers.{suc_positive}

abbrev Entries : Type 0
Entries = List (ℕ × ℤ)

pub CommonTo-from_test : (d : ℕ) (es : Entries) → divides_all d es ≡ true → CommonTo d es
CommonTo-from_test d [] h = tt
CommonTo-from_test d (e ∷ es) h =
    let p = and_parts _ _ h in
    let z : unsigned_abs e.1 % d ≡ 0 = grind (arith, nat_tests) in
    (dvd_of_mod-eq-zero d z, CommonTo-from_test d es p.1)

pub test-from_CommonTo : (d : ℕ) (es : Entries) → CommonTo d es → divides_all d es ≡ true
test-from_CommonTo d [] h = refl
test-from_CommonTo d (e ∷ es) h =
    let z = mod-eq-zero_of_dvd d h.0 in
    and_from _ _ (grind (arith, nat_tests)) (test-from_CommonTo d es h.1)

by_answer : (b : Bool) (n g r : ℕ) → (b ≡ true → suc n ≡ g) → (b ≡ false → r ≡ g) → (if b then suc n else r) ≡ g
by_answer true n g r h k = h refl
by_answer false n g r h k = k refl

below : (n g : ℕ) (es : Entries) → g ≤ suc n → CommonTo g es → divides_all (suc n) es ≡ false → g ≤ n
below n g es k c f =
    elim (cases_lt n g) [
      | inl over ↦
          let e : g ≡ suc n = omega arith in
          let t = test-from_CommonTo g es c in
          absurd (cc)
      | inr under ↦ under
    ]

-- the greatest common divisor is found
greatest-is : (n g : ℕ) (es : Entries) → 0 < g → g ≤ n → CommonTo g es → ((d : ℕ) → CommonTo d es → d ≤ g) → greatest_up_to n es ≡ g
unfolding greatest_up_to
greatest-is zero g es h k c m = absurd (omega arith)
greatest-is (suc n) g es h k c m =
    by_answer (divides_all (suc n) es) n g (greatest_up_to n es)
    (λ yes'. let least = m (suc n) (CommonTo-from_test (suc n) es yes') in omega arith)
    (λ fails. greatest-is n g es h (below n g es k c fails) c m)

pub CommonTo-at : (d : ℕ) (es : Entries) (i : ℕ) → i < length es → CommonTo d es → d ∣ unsigned_abs (get_or es i none).1
CommonTo-at d [] i h k = absurd (omega arith)
CommonTo-at d (e ∷ es) zero h k = k.0
CommonTo-at d (e ∷ es) (suc i) h k = CommonTo-at d es i (omega arith) k.1

pub CommonTo-more : (d : ℕ) (es : Entries) (i : ℕ) → i < length es → d ∣ unsigned_abs (get_or es i none).1 → CommonTo d (drop (i + 1) es) → CommonTo d (drop i es)
CommonTo-more d es i h a b = rw (drop_more es i none h) (a, b)

-- where a number has just the common divisors as its divisors
pub common_divisor-is : (es : Entries) (g : ℕ) → AreEntries es → g ≢ 0 → ((d : ℕ) → d ∣ g → CommonTo d es) → ((d : ℕ) → CommonTo d es → d ∣ g) → common_divisor es ≡ g
unfolding common_divisor
common_divisor-is [] g h n up down = let over = le_of_dvd {n = g} (omega arith) (down (g + 1) tt) in absurd (omega arith)
common_divisor-is (e ∷ es) g h n up down =
    let some : 0 < g = omega arith in
    greatest-is (unsigned_abs e.1) g (e ∷ es) some (le_of_dvd (above_zero e.1 h.1) (up g (dvd_refl g)).0) (up g (dvd_refl g)) (λ d c. le_of_dvd some (down d c))

pub common_divisor-none : (es : Entries) → AreEntries es → ((d : ℕ) → CommonTo d es) → common_divisor es ≡ 1
unfolding common_divisor
common_divisor-none [] h up = refl
common_divisor-none (e ∷ es) h up =
    let z = above_zero e.1 h.1 in
    let over = le_of_dvd z (up (unsigned_abs e.1 + 1)).0 in
    absurd (omega arith)

one_divides : (es : Entries) → CommonTo 1 es
one_divides [] = tt
one_divides (e ∷ es) = (one-dvd _, one_divides es)

one_only : (d : ℕ) (es : Entries) → d ∣ 1 → CommonTo d es
one_only zero es h = let e = eq-zero_of_zero-dvd h in absurd (omega (arith, e))
one_only (suc n) es h = let least = le_of_dvd {n = 1} (omega arith) h in let e : suc n ≡ 1 = omega arith in rw e (one_divides es)

-- where no number but 1 can divide each coefficient, the greatest one is 1
pub common_divisor-one : (es : Entries) → AreEntries es → ((d : ℕ) → CommonTo d es → d ∣ 1) → common_divisor es ≡ 1
common_divisor-one es h down = common_divisor-is es 1 h (omega arith) (λ d k. one_only d es k) down

pub unsigned_abs-neg : (z : ℤ) → unsigned_abs (neg_ℤ z) ≡ unsigned_abs z
unsigned_abs-neg (pos zero) = refl
unsigned_abs-neg (pos (suc n)) = refl
unsigned_abs-neg (negsuc n) = refl

pub unsigned_abs-quotient : (z : ℤ) (d : ℕ) → unsigned_abs (int_div_euclid z (pos d)) ≤ unsigned_abs z
unsigned_abs-quotient (pos a) d = div-le_self a d
unsigned_abs-quotient (negsuc a) d = omega (arith, div-le_self a d)

-- what is left over
pub rest_of : ℤ → ℕ → ℕ
rest_of (pos a) d = a % d
rest_of (negsuc a) d = d - 1 - a % d

pub rest_of-lt : (z : ℤ) (d : ℕ) → 0 < d → rest_of z d < d
unfolding rest_of
rest_of-lt (pos a) d h = mod-lt a h
rest_of-lt (negsuc a) d h = omega arith

pub quotient-rest : (z : ℤ) (d : ℕ) → 0 < d → int_div_euclid z (pos d) *ℤ pos d +ℤ pos (rest_of z d) ≡ z
unfolding rest_of
quotient-rest (pos a) d h = omega (arith, ints, div-add-mod a d)
quotient-rest (negsuc a) d h = omega (arith, ints, div-add-mod a d, mod-lt a h)

rest_zero : (r d : ℕ) → r < d → d ∣ r → r ≡ 0
rest_zero zero d h k = refl
rest_zero (suc r) d h k = let over = le_of_dvd {n = suc r} (omega arith) k in absurd (omega arith)

rest_of-zero : (z : ℤ) (d : ℕ) → 0 < d → d ∣ unsigned_abs z → rest_of z d ≡ 0
unfolding rest_of
rest_of-zero (pos a) d h k = mod-eq-zero_of_dvd d k
rest_of-zero (negsuc a) d h k =
    let less : d - 1 - a % d < d = omega arith in
    let whole : suc a + (d - 1 - a % d) ≡ (a / d + 1) * d = omega (arith, div-add-mod a d, mod-lt a h) in
    rest_zero _ d less ((dvd-add_iff_right d k).1 (subst (λ (n : ℕ). d ∣ n) (sym whole) (dvd-mul_left d (a / d + 1))))

pub quotient-exact : (z : ℤ) (d : ℕ) → 0 < d → d ∣ unsigned_abs z → int_div_euclid z (pos d) *ℤ pos d ≡ z
quotient-exact z d h k = omega (arith, ints, quotient-rest z d h, rest_of-zero z d h k)

pub value-divided : (store : ℕ → ℤ) (d : ℕ) (es : Entries) → 0 < d → CommonTo d es → entries_value store (map (λ e. (e.0, int_div_euclid e.1 (pos d))) es) *ℤ pos d ≡ entries_value store es
value-divided store d [] h k = zero-*ℤ (pos d)
value-divided store d (e ∷ es) h k =
    let q : ℤ = int_div_euclid e.1 (pos d) in
    let x : ℤ = store e.0 in
    let rest : ℤ = entries_value store (map (λ e. (e.0, int_div_euclid e.1 (pos d))) es) in
    let first : (q *ℤ x) *ℤ pos d ≡ e.1 *ℤ x =
    *ℤ_assoc q x (pos d) ∙ ap (λ y. q *ℤ y) (*ℤ_comm x (pos d)) ∙ sym (*ℤ_assoc q (pos d) x) ∙ ap (λ y. y *ℤ x) (quotient-exact e.1 d h k.0) in
    +ℤ-*ℤ (q *ℤ x) rest (pos d) ∙ ap (λ y. y +ℤ rest *ℤ pos d) first ∙ ap (λ y. e.1 *ℤ x +ℤ y) (value-divided store d es h k.1)

under : (m r : ℕ) → r < m → int_le (pos 0) (neg_ℤ (pos m) +ℤ pos r) ≡ false
under m r h = grind (arith, ints)

sign : (w : ℤ) (d r : ℕ) → 0 < d → r < d → int_le (pos 0) (w *ℤ pos d +ℤ pos r) ≡ int_le (pos 0) w
sign (pos n) d r h k = grind (arith, nat_tests)
sign (negsuc n) d r h k = under (suc n * d) r (omega (arith, mul-le-mul_right d (suc_positive n)))

-- a form has the sign of its numbers divided and rounded down
pub sign-divided : (store : ℕ → ℤ) (d : ℕ) (f : Linear) → 0 < d → CommonTo d f.entries → int_le (pos 0) (value store (divided d f)) ≡ int_le (pos 0) (value store f)
sign-divided store d f h k =
    let q : ℤ = int_div_euclid f.constant (pos d) in
    let rest : ℤ = entries_value store (divided d f).entries in
    let whole : value store f ≡ (q +ℤ rest) *ℤ pos d +ℤ pos (rest_of f.constant d) =
    omega (arith, ints, quotient-rest f.constant d h, value-divided store d f.entries h k, +ℤ-*ℤ q rest (pos d)) in
    sym (ap (int_le (pos 0)) whole ∙ sign (q +ℤ rest) d (rest_of f.constant d) h (rest_of-lt f.constant d h))

AllAbove-map : (g : ℤ → ℤ) (v : ℕ) (es : Entries) → AllAbove v es → AllAbove v (map (λ e. (e.0, g e.1)) es)
AllAbove-map g v [] h = tt
AllAbove-map g v (e ∷ es) h = (h.0, AllAbove-map g v es h.1)

quotient-nonzero : (z : ℤ) (d : ℕ) → 0 < d → d ∣ unsigned_abs z → z ≢ pos 0 → int_div_euclid z (pos d) ≢ pos 0
quotient-nonzero z d h k n e = n (sym (quotient-exact z d h k) ∙ ap (λ q. q *ℤ pos d) e ∙ zero-*ℤ (pos d))

pub AreEntries-divided : (d : ℕ) (es : Entries) → 0 < d → CommonTo d es → AreEntries es → AreEntries (map (λ e. (e.0, int_div_euclid e.1 (pos d))) es)
AreEntries-divided d [] h k a = tt
AreEntries-divided d (e ∷ es) h k a = (AllAbove-map (λ z. int_div_euclid z (pos d)) e.0 es a.0, quotient-nonzero e.1 d h k.0 a.1, AreEntries-divided d es h k.1 a.2)

neg-nonzero : (z : ℤ) → z ≢ pos 0 → neg_ℤ z ≢ pos 0
neg-nonzero (pos zero) n e = n refl
neg-nonzero (pos (suc m)) n e = cc
neg-nonzero (negsuc m) n e = cc

pub AreEntries-negated : (es : Entries) → AreEntries es → AreEntries (map (λ e. (e.0, neg_ℤ e.1)) es)
AreEntries-negated [] a = tt
AreEntries-negated (e ∷ es) a = (AllAbove-map neg_ℤ e.0 es a.0, neg-nonzero e.1 a.1, AreEntries-negated es a.2)

smaller : (y z : ℤ) → unsigned_abs y ≤ unsigned_abs z → IsTrue (is_small z) → IsTrue (is_small y)
unfolding is_within
smaller y z h k = grind (arith, nat_tests)

pub is_small-quotient : (z : ℤ) (d : ℕ) → IsTrue (is_small z) → IsTrue (is_small (int_div_euclid z (pos d)))
is_small-quotient z d h = smaller _ z (unsigned_abs-quotient z d) h

pub are_small-divided : (d : ℕ) (es : Entries) → IsTrue (are_small es) → IsTrue (are_small (map (λ e. (e.0, int_div_euclid e.1 (pos d))) es))
are_small-divided d [] h = refl
are_small-divided d (e ∷ es) h = let p = and_parts _ _ h in and_from _ _ (is_small-quotient e.1 d p.0) (are_small-divided d es p.1)

pub are_small-negated : (es : Entries) → IsTrue (are_small es) → IsTrue (are_small (map (λ e. (e.0, neg_ℤ e.1)) es))
are_small-negated [] h = refl
are_small-negated (e ∷ es) h = let p = and_parts _ _ h in and_from _ _ (smaller (neg_ℤ e.1) e.1 (omega (arith, unsigned_abs-neg e.1)) p.0) (are_small-negated es p.1)

pub gcd_up : (es : Entries) (i a g : ℕ) → i < length es → IsGcd a (unsigned_abs (get_or es i none).1) g
    → ((d : ℕ) → d ∣ a → CommonTo d (drop i es) → CommonTo d es)
    → (d : ℕ) → d ∣ g → CommonTo d (drop (i + 1) es) → CommonTo d es
gcd_up es i a g h k up d n c = up d (dvd_trans d n k.0) (CommonTo-more d es i h (dvd_trans d n k.1) c)

pub gcd_down : (es : Entries) (i a g : ℕ) → i < length es → IsGcd a (unsigned_abs (get_or es i none).1) g
    → ((d : ℕ) → CommonTo d es → d ∣ a)
    → (d : ℕ) → CommonTo d es → d ∣ g
gcd_down es i a g h k down d c = k.2 d (down d c) (CommonTo-at d es i h c)

value-negated_entries : (store : ℕ → ℤ) (es : Entries) → entries_value store (map (λ e. (e.0, neg_ℤ e.1)) es) ≡ neg_ℤ (entries_value store es)
value-negated_entries store [] = refl
value-negated_entries store (e ∷ es) = omega (arith, ints, value-negated_entries store es, neg_ℤ-*ℤ e.1 (store e.0))

pub value-negated : (store : ℕ → ℤ) (f : Linear) → value store (negated f) ≡ neg_ℤ (value store f)
value-negated store f = omega (arith, ints, value-negated_entries store f.entries)

pub value-complement : (store : ℕ → ℤ) (f : Linear) → value store (complement f) ≡ neg_ℤ (value store f) +ℤ negsuc 0
value-complement store f = omega (arith, ints, value-negated_entries store f.entries)

pub value-lowered : (store : ℕ → ℤ) (f : Linear) → value store (lowered f) ≡ value store f +ℤ negsuc 0
value-lowered store f = omega (arith, ints)

-- the numbers divided are the form's value divided, where the constant is divided too
pub value-divided_whole : (store : ℕ → ℤ) (d : ℕ) (f : Linear) → 0 < d → CommonTo d f.entries → d ∣ unsigned_abs f.constant → value store (divided d f) *ℤ pos d ≡ value store f
value-divided_whole store d f h k l =
    +ℤ-*ℤ (int_div_euclid f.constant (pos d)) (entries_value store (divided d f).entries) (pos d)
    ∙ ap (λ x. x +ℤ entries_value store (divided d f).entries *ℤ pos d) (quotient-exact f.constant d h l)
    ∙ ap (λ x. f.constant +ℤ x) (value-divided store d f.entries h k)

-- a common divisor is above 0 and divides each coefficient
greatest-divides : (n : ℕ) (es : Entries) → (0 < greatest_up_to n es) × CommonTo (greatest_up_to n es) es
unfolding greatest_up_to
greatest-divides zero es = (omega arith, one_divides es)
greatest-divides (suc n) es = pick (divides_all (suc n) es) refl (greatest-divides n es)
  where
    pick : (b : Bool) → divides_all (suc n) es ≡ b → (0 < greatest_up_to n es) × CommonTo (greatest_up_to n es) es → (0 < (if b then suc n else greatest_up_to n es)) × CommonTo (if b then suc n else greatest_up_to n es) es
    pick true h i = (omega arith, CommonTo-from_test (suc n) es h)
    pick false h i = i

pub common_divisor-divides : (es : Entries) → (0 < common_divisor es) × CommonTo (common_divisor es) es
unfolding common_divisor
common_divisor-divides [] = (omega arith, tt)
common_divisor-divides (e ∷ es) = greatest-divides (unsigned_abs e.1) (e ∷ es)

greatest-le : (n : ℕ) (es : Entries) → greatest_up_to n es ≤ n + 1
unfolding greatest_up_to
greatest-le zero es = omega arith
greatest-le (suc n) es = pick (divides_all (suc n) es) (greatest-le n es)
  where
    pick : (b : Bool) → greatest_up_to n es ≤ n + 1 → (if b then suc n else greatest_up_to n es) ≤ suc n + 1
    pick true h = omega arith
    pick false h = omega arith

small_below : (z : ℤ) → IsTrue (is_small z) → unsigned_abs z < 2 ^ 100
unfolding is_within
small_below z h = grind (arith, nat_tests)

pub common_divisor-lt : (es : Entries) → AreEntries es → IsTrue (are_small es) → common_divisor es < 2 ^ 100
unfolding common_divisor
common_divisor-lt [] h k = omega arith
common_divisor-lt (e ∷ es) h k =
    let p = and_parts (is_small e.1) (are_small es) k in
    let small = small_below e.1 p.0 in
    let d = greatest-divides (unsigned_abs e.1) (e ∷ es) in
    let least = le_of_dvd (above_zero e.1 h.1) d.1.0 in
    omega (arith, least, small)

quotient-one : (z : ℤ) → int_div_euclid z (pos 1) ≡ z
quotient-one (pos a) = let h : a / 1 ≡ a = omega arith in cc
quotient-one (negsuc a) = let h : a / 1 ≡ a = omega arith in cc

same_first : (v : ℕ) (x y : ℤ) (xs ys : Entries) → x ≡ y → xs ≡ ys → (v, x) ∷ xs ≡ (v, y) ∷ ys
same_first v x y xs ys h k = cc

entries-one : (es : Entries) → map (λ e. (e.0, int_div_euclid e.1 (pos 1))) es ≡ es
entries-one [] = refl
entries-one ((v, z) ∷ es) =
    let h : int_div_euclid z (pos 1) ≡ z = quotient-one z in
    let k : map (λ e. (e.0, int_div_euclid e.1 (pos 1))) es ≡ es = entries-one es in
    same_first v _ z _ es h k

same_form : (c d : ℤ) (es fs : Entries) → c ≡ d → es ≡ fs → Path Linear (record { constant = c; entries = es }) (record { constant = d; entries = fs })
same_form c d es fs h k = cc

-- division by 1 changes nothing
pub divided-one : (f : Linear) → divided 1 f ≡ f
divided-one f = same_form _ f.constant _ f.entries (quotient-one f.constant) (entries-one f.entries)
