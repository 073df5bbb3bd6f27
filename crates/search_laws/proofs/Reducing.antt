-- Forms divided by their common divisor have none but 1, and are their own quotients by it.
use Rattle.std.proofs.Common.{◌≡◌, ◌≢◌, ℕ, zero, suc, ◌*◌, ◌%◌, ◌<◌, ◌≤◌, Bool, true, false, List, [], ◌∷◌, map, inl, inr, refl, ap, ◌∙◌, sym, subst, arith, ℤ, pos, negsuc, ◌*ℤ◌, ◌<ℤ◌, neg_ℤ}
use Rattle.std.specs.Prelude.{if◌then◌else◌, unsigned_abs, int_lt, ◌==◌}
use Prim.Native.Nat.{◌∣◌}
use Rattle.std.specs.Int.{int_div_euclid}
use Rattle.std.proofs.lemmas.Int.{ints, unsigned_abs-mul}
use Rattle.std.proofs.lemmas.Bool.{cases_lt}
use Rattle.std.proofs.lemmas.Bool.Decides.{nat_tests}
use Rattle.std.proofs.lemmas.Nat.Gcd.{le_of_dvd, dvd_refl, mod-eq-zero_of_dvd}
use Rattle.std.proofs.Math.Nat.{eq-zero_of_zero-dvd, one-dvd, mul-dvd-mul_right}
use Rattle.st_linear.specs.Linear.{Linear, AreEntries}
use Rattle.st_linear.specs.Simple.{divides_all, greatest_up_to, common_divisor, CommonTo, divided, negated}
use Rattle.st_linear.proofs.Dividing.{test-from_CommonTo, common_divisor-one, common_divisor-divides, quotient-exact, unsigned_abs-neg, AreEntries-divided, AreEntries-negated}
use Rattle.st_form.specs.Simple.{is_constant, no_entries, leads_negative, leading, divides_constant}
use Rattle.search_laws.specs.Steady.{IsReduced}
use Rattle.basic_laws.proofs.Integers.{above_zero}

abbrev Entries : Type 0
Entries = List (ℕ × ℤ)

-- no common divisor is above the greatest
at-least : (n d : ℕ) (es : Entries) → d ≤ n → CommonTo d es → d ≤ greatest_up_to n es
unfolding greatest_up_to
at-least zero d es l c = omega (arith, l)
at-least (suc n) d es l c = by_test (divides_all (suc n) es) refl (λ m. at-least n d es m c)
  where
    by_test : (b : Bool) → divides_all (suc n) es ≡ b → (d ≤ n → d ≤ greatest_up_to n es) → d ≤ (if b then suc n else greatest_up_to n es)
    by_test true h r = l
    by_test false h r = elim (cases_lt n d) [
      | inl over ↦
          let e : d ≡ suc n = omega (arith, over, l) in
          let t : divides_all (suc n) es ≡ true = subst (λ (m : ℕ). divides_all m es ≡ true) e (test-from_CommonTo d es c) in
          absurd (let f = sym t ∙ h in cc)
      | inr under ↦ r under
    ]

greatest : (d v : ℕ) (z : ℤ) (es : Entries) → z ≢ pos 0 → CommonTo d ((v, z) ∷ es) → d ≤ common_divisor ((v, z) ∷ es)
unfolding common_divisor
greatest d v z es n c = at-least (unsigned_abs z) d ((v, z) ∷ es) (le_of_dvd (above_zero z n) c.0) c

times-of : (d g : ℕ) (q z : ℤ) → q *ℤ pos g ≡ z → d ∣ unsigned_abs q → (d * g) ∣ unsigned_abs z
times-of d g q z e h =
    let size : unsigned_abs q * g ≡ unsigned_abs z = sym (unsigned_abs-mul q (pos g)) ∙ ap unsigned_abs e in
    subst (λ (n : ℕ). (d * g) ∣ n) size (mul-dvd-mul_right d h g)

-- d times g divides what g divides into a multiple of d
times-divides : (d g : ℕ) (z : ℤ) → 0 < g → g ∣ unsigned_abs z → d ∣ unsigned_abs (int_div_euclid z (pos g)) → (d * g) ∣ unsigned_abs z
times-divides d g z h k l = times-of d g (int_div_euclid z (pos g)) z (quotient-exact z g h k) l

all-times : (d g : ℕ) (es : Entries) → 0 < g → CommonTo g es → CommonTo d (map (λ e. (e.0, int_div_euclid e.1 (pos g))) es) → CommonTo (d * g) es
all-times d g [] h k l = tt
all-times d g (e ∷ es) h k l = (times-divides d g e.1 h k.0 l.0, all-times d g es h k.1 l.1)

-- only 1 divides all quotients
divides-one : (d g v : ℕ) (z : ℤ) (es : Entries) → 0 < g → z ≢ pos 0 → int_div_euclid z (pos g) ≢ pos 0 → CommonTo g ((v, z) ∷ es) → g ≡ common_divisor ((v, z) ∷ es)
    → CommonTo d (map (λ e. (e.0, int_div_euclid e.1 (pos g))) ((v, z) ∷ es)) → d ∣ 1
divides-one zero g v z es h n q c e t =
    let none : unsigned_abs (int_div_euclid z (pos g)) ≡ 0 = eq-zero_of_zero-dvd t.0 in
    let some : 0 < unsigned_abs (int_div_euclid z (pos g)) = above_zero (int_div_euclid z (pos g)) q in
    absurd (omega (arith, none, some))
divides-one (suc zero) g v z es h n q c e t = dvd_refl 1
divides-one (suc (suc d)) g v z es h n q c e t =
    let over : suc (suc d) * g ≤ g = subst (λ (m : ℕ). suc (suc d) * g ≤ m) (sym e) (greatest (suc (suc d) * g) v z es n (all-times (suc (suc d)) g ((v, z) ∷ es) h c t)) in
    absurd (omega (arith, over, h))

reduced-entries : (c : ℤ) (v : ℕ) (z : ℤ) (es : Entries) → AreEntries ((v, z) ∷ es) → IsReduced (divided (common_divisor ((v, z) ∷ es)) (record { constant = c; entries = (v, z) ∷ es }))
reduced-entries c v z es a =
    let g : ℕ = common_divisor ((v, z) ∷ es) in
    let k = common_divisor-divides ((v, z) ∷ es) in
    let b = AreEntries-divided g ((v, z) ∷ es) k.0 k.1 a in
    record {
      entries = b;
      varies = refl;
      divisor = common_divisor-one (map (λ e. (e.0, int_div_euclid e.1 (pos g))) ((v, z) ∷ es)) b (λ d t. divides-one d g v z es k.0 a.1 b.1 k.1 refl t);
    }

-- a form divided by its common divisor is reduced
pub reduced : (f : Linear) → AreEntries f.entries → is_constant f ≡ false → IsReduced (divided (common_divisor f.entries) f)
reduced f a h = by_entries f.constant f.entries a h
  where
    by_entries : (c : ℤ) (es : Entries) → AreEntries es → no_entries es ≡ false → IsReduced (divided (common_divisor es) (record { constant = c; entries = es }))
    by_entries c [] a h = absurd (cc)
    by_entries c (e ∷ es) a h = reduced-entries c e.0 e.1 es a

quotient-one : (z : ℤ) → int_div_euclid z (pos 1) ≡ z
quotient-one z = let e = quotient-exact z 1 (omega arith) (one-dvd (unsigned_abs z)) in omega (arith, ints, e)

all-one : (es : Entries) → map (λ e. (e.0, int_div_euclid e.1 (pos 1))) es ≡ es
all-one [] = refl
all-one (e ∷ es) = let q = quotient-one e.1 in rw (q, all-one es) refl

one-same : (f : Linear) → divided 1 f ≡ f
one-same f = let q = quotient-one f.constant in let r = all-one f.entries in rw (q, r) refl

pub divided-same : (f : Linear) → IsReduced f → divided (common_divisor f.entries) f ≡ f
divided-same f h = let d = h.divisor in ap (λ (g : ℕ). divided g f) d ∙ one-same f

-- ---- with the other sign
common-negated : (d : ℕ) (es : Entries) → CommonTo d (map (λ e. (e.0, neg_ℤ e.1)) es) → CommonTo d es
common-negated d [] h = tt
common-negated d (e ∷ es) h = (subst (λ (n : ℕ). d ∣ n) (unsigned_abs-neg e.1) h.0, common-negated d es h.1)

negated-varies : (es : Entries) → no_entries es ≡ false → no_entries (map (λ e. (e.0, neg_ℤ e.1)) es) ≡ false
negated-varies [] h = absurd (cc)
negated-varies (e ∷ es) h = refl

common-one : (d : ℕ) (es : Entries) → AreEntries es → no_entries es ≡ false → common_divisor es ≡ 1 → CommonTo d es → d ∣ 1
common-one d [] a n h c = absurd (cc)
common-one zero (e ∷ es) a n h c =
    let none : unsigned_abs e.1 ≡ 0 = eq-zero_of_zero-dvd c.0 in
    let some : 0 < unsigned_abs e.1 = above_zero e.1 a.1 in
    absurd (omega (arith, none, some))
common-one (suc zero) (e ∷ es) a n h c = dvd_refl 1
common-one (suc (suc d)) (e ∷ es) a n h c = let l = greatest (suc (suc d)) e.0 e.1 es a.1 c in absurd (omega (arith, l, h))

reduced-negated : (f : Linear) → IsReduced f → IsReduced (negated f)
reduced-negated f h =
    let a = AreEntries-negated f.entries h.entries in
    record {
      entries = a;
      varies = negated-varies f.entries h.varies;
      divisor = common_divisor-one (map (λ e. (e.0, neg_ℤ e.1)) f.entries) a (λ d c. common-one d f.entries h.entries h.varies h.divisor (common-negated d f.entries c));
    }

less-is : (z : ℤ) → int_lt z (pos 0) ≡ true → z <ℤ pos 0
less-is z h = grind (arith, ints)

turned-sign : (z : ℤ) → int_lt z (pos 0) ≡ true → int_lt (neg_ℤ z) (pos 0) ≡ false
turned-sign (pos n) h = let l = less-is (pos n) h in absurd (omega (arith, ints, l))
turned-sign (negsuc n) h = grind (arith, ints)

turned-leads : (es : Entries) → leads_negative es ≡ true → leads_negative (map (λ e. (e.0, neg_ℤ e.1)) es) ≡ false
turned-leads [] h = absurd (cc)
turned-leads (e ∷ es) h = turned-sign e.1 h

-- an equation's form leads with a positive coefficient
pub reduced-leading : (f : Linear) → IsReduced f → IsReduced (leading f) × (leads_negative (leading f).entries ≡ false)
reduced-leading f h = by_test (leads_negative f.entries) refl
  where
    by_test : (b : Bool) → leads_negative f.entries ≡ b → IsReduced (if b then negated f else f) × (leads_negative (if b then negated f else f).entries ≡ false)
    by_test true e = (reduced-negated f h, turned-leads f.entries e)
    by_test false e = (h, e)

pub leading-same : (f : Linear) → leads_negative f.entries ≡ false → leading f ≡ f
leading-same f h = rw h refl

pub divides-constant : (f : Linear) → IsReduced f → divides_constant f ≡ true
divides-constant f h =
    let z : unsigned_abs f.constant % 1 ≡ 0 = mod-eq-zero_of_dvd 1 (one-dvd (unsigned_abs f.constant)) in
    let t : (unsigned_abs f.constant % 1 == 0) ≡ true = grind (arith, nat_tests) in
    ap (λ (g : ℕ). unsigned_abs f.constant % g == 0) h.divisor ∙ t
