-- Numbers as words: what is read as a number is its numeral, and each numeral is read as its number.
use Rattle.std.proofs.Common.{◌≡◌, ℕ, ℤ, pos, negsuc, zero, suc, ◌+◌, ◌-◌, ◌*◌, ◌^◌, ◌<◌, ◌≤◌, Bool, true, false, not, ◌&&◌, cond, List, [], ◌∷◌, length, get_or, refl, ap, subst, ◌∙◌, sym, Result, Ok, Err, nat_lt, nat_le, ◌==◌, arith, unsigned_abs, neg_ℤ}
use Rattle.std.specs.Fmt.{decimal, signed_decimal}
use Rattle.std.proofs.lemmas.Bool.{and_parts}
use Rattle.std.proofs.lemmas.Bool.Decides.{nat_tests}
use Rattle.std.proofs.lemmas.Str.Parse.{IsDigitsTest, FoldsDigits, IsNumeralModel, numerals_by_fold}
use Rattle.std.proofs.lemmas.Fmt.{digits_decimal, digits_value-decimal, decimal-digits_value, decimal_digit, decimal_nonempty, first_decimal}
use Rattle.shared_certificates.specs.declared.refusals.Refusal.{Refusal}
use Rattle.shared_certificates.specs.declared.refusals.Refusal.TheVariants.{Malformed, Limit}
use Rattle.shared_certificates.specs.Reading.{Read, ◌>>=◌, are_digits, index, is_digit, is_numeral, negative, number, positive, signed, value_behind}

-- ---- tests of numbers
pub le-true : (m n : ℕ) → nat_le m n ≡ true → m ≤ n
le-true m n h = grind (arith, nat_tests)

pub true-le : (m n : ℕ) → m ≤ n → nat_le m n ≡ true
true-le m n h = grind (arith, nat_tests)

pub lt-true : (m n : ℕ) → nat_lt m n ≡ true → m < n
lt-true m n h = grind (arith, nat_tests)

pub true-lt : (m n : ℕ) → m < n → nat_lt m n ≡ true
true-lt m n h = grind (arith, nat_tests)

pub lt-false : (m n : ℕ) → nat_lt m n ≡ false → n ≤ m
lt-false m n h = grind (arith, nat_tests)

pub false-lt : (m n : ℕ) → n ≤ m → nat_lt m n ≡ false
false-lt m n h = grind (arith, nat_tests)

pub eq-true : (m n : ℕ) → (m == n) ≡ true → m ≡ n
eq-true m n h = grind (arith, nat_tests)

pub eq-self : (n : ℕ) → (n == n) ≡ true
eq-self n = grind (arith, nat_tests)

pub eq-false : (m n : ℕ) → (m ≡ n → ⊥) → (m == n) ≡ false
eq-false m n h = by (m == n) refl where
  by : (b : Bool) → (m == n) ≡ b → b ≡ false
  by true e = absurd (h (eq-true m n e))
  by false e = refl

pub ne-false : (m n : ℕ) → (m == n) ≡ false → m ≡ n → ⊥
ne-false m n h e = grind (arith, nat_tests)

pub not-true : (b : Bool) → not b ≡ true → b ≡ false
not-true true h = absurd (cc)
not-true false h = refl

-- ---- what was read
abbrev pub value_or : {A : Type 0} → A → Read A → A
value_or x (Ok y) = y
value_or x (Err e) = x

abbrev pub done : {A : Type 0} → A → Read A
done x = Ok x

abbrev pub bad : {A : Type 0} → Refusal → Read A
bad e = Err e

pub as-ok : {A : Type 0} (x y : A) → done x ≡ done y → x ≡ y
as-ok x y h = ap (value_or x) h

pub never-ok : {A : Type 0} (e : Refusal) (y : A) → bad e ≡ done y → ⊥
never-ok {A} e y h = absurd (cc)

-- ---- digits, as std has them
abbrev AreDigits : List ℕ → Type 0
AreDigits ds = are_digits ds ≡ true

pub digit-in : (c : ℕ) → is_digit c ≡ true → (48 ≤ c) × (c ≤ 57)
digit-in c h = let p = and_parts (nat_le 48 c) (nat_le c 57) h in (le-true 48 c p.0, le-true c 57 p.1)

in-digit : (c : ℕ) → 48 ≤ c → c ≤ 57 → is_digit c ≡ true
in-digit c a b = ap (λ x. x && nat_le c 57) (true-le 48 c a) ∙ true-le c 57 b

tells : IsDigitsTest AreDigits
tells = record {
  empty = refl;
  parts = λ c cs h. let p = and_parts (is_digit c) (are_digits cs) h in (digit-in c p.0, p.1);
  more = λ c cs k h. ap (λ x. x && are_digits cs) (in-digit c k.0 k.1) ∙ h;
}

folds : FoldsDigits value_behind
folds = record { empty = λ n. refl; more = λ n c cs k. refl }

pub own : IsNumeralModel AreDigits (value_behind 0)
own = numerals_by_fold AreDigits tells value_behind folds

-- ---- numerals
record IsProper (w : List ℕ) : Type 0 where
  digits : are_digits w ≡ true
  some : 0 < length w
  lean : get_or w 0 0 ≡ 48 → length w ≡ 1

proper : (w : List ℕ) → is_numeral w ≡ true → IsProper w
proper [] h = absurd (cc)
proper (d ∷ []) h = record { digits = ap (λ x. x && true) h; some = omega arith; lean = λ e. refl }
proper (d ∷ e ∷ ds) h =
    let p = and_parts (not (d == 48)) (are_digits (d ∷ e ∷ ds)) h in
    record { digits = p.1; some = omega arith; lean = λ z. absurd (ne-false d 48 (not-true (d == 48) p.0) z) }

numeral-of : (w : List ℕ) → are_digits w ≡ true → 0 < length w → (1 < length w → get_or w 0 0 ≡ 48 → ⊥) → is_numeral w ≡ true
numeral-of [] h s b = absurd (omega (arith, s))
numeral-of (d ∷ []) h s b = (and_parts (is_digit d) true h).0
numeral-of (d ∷ e ∷ ds) h s b = ap (λ x. not x && are_digits (d ∷ e ∷ ds)) (eq-false d 48 (b (omega arith))) ∙ h

-- what the test of a number leaves
abbrev tested : Bool → Bool → ℕ → Read ℕ
tested b c v = cond b (cond c (Err Limit) (Ok v)) (Err Malformed)

taken : (b c : Bool) (v n : ℕ) → tested b c v ≡ done n → (b ≡ true) × (c ≡ false) × (v ≡ n)
taken true true v n h = absurd (never-ok Limit n h)
taken true false v n h = (refl, refl, as-ok v n h)
taken false c v n h = absurd (never-ok Malformed n h)

pub number-sound : (most : ℕ) (w : List ℕ) (n : ℕ) → most < 2 ^ 64 → number most w ≡ Ok n → (w ≡ decimal n) × (n ≤ most)
unfolding number
number-sound most w n small h =
    let v : ℕ = value_behind 0 w in
    let t = taken (is_numeral w) (nat_lt most v) v n h in
    let p = proper w t.0 in
    let low : v ≤ most = lt-false most v t.1 in
    let same = decimal-digits_value own w p.digits p.some p.lean (omega (arith, low, small)) in
    (sym same ∙ ap decimal t.2, omega (arith, low, t.2))

lean-decimal : (n : ℕ) → n < 2 ^ 64 → 1 < length (decimal n) → get_or (decimal n) 0 0 ≡ 48 → ⊥
lean-decimal zero h l e = omega (arith, l, ap length (decimal_digit 0 (omega arith)))
lean-decimal (suc n) h l e = omega (arith, first_decimal (suc n) (omega arith) h, e)

pub number-complete : (most n : ℕ) → n ≤ most → n < 2 ^ 64 → number most (decimal n) ≡ Ok n
unfolding number
number-complete most n low small =
    let w : List ℕ = decimal n in
    let is = numeral-of w (digits_decimal own n small) (decimal_nonempty n small) (lean-decimal n small) in
    ap (λ b. tested b (nat_lt most (value_behind 0 w)) (value_behind 0 w)) is
    ∙ ap (λ x. tested true (nat_lt most x) x) (digits_value-decimal own n small)
    ∙ ap (λ b. tested true b n) (false-lt most n low)

-- ---- numbers that count from 1
pub on-bound : {A B : Type 0} (r : Read A) (f : A → Read B) (y : B) → (r >>= f) ≡ Ok y → (x : A) × (r ≡ Ok x) × (f x ≡ Ok y)
on-bound (Ok x) f y h = (x, refl, h)
on-bound (Err e) f y h = absurd (never-ok e y h)

pub binds : {A B : Type 0} (r : Read A) (f : A → Read B) (x : A) (y : B) → r ≡ Ok x → f x ≡ Ok y → (r >>= f) ≡ Ok y
binds r f x y h k = ap (λ q. q >>= f) h ∙ k

abbrev lowered : Bool → ℕ → Read ℕ
lowered b n = cond b (Err Malformed) (Ok (n - 1))

raised : (n m : ℕ) → lowered (n == 0) n ≡ done m → n ≡ m + 1
raised n m h = by (n == 0) refl h where
  by : (b : Bool) → (n == 0) ≡ b → lowered b n ≡ done m → n ≡ m + 1
  by true e k = absurd (never-ok Malformed m k)
  by false e k = omega (arith, as-ok (n - 1) m k, ne-false n 0 e)

back : (k : ℕ) → lowered ((k + 1) == 0) (k + 1) ≡ done k
back k = ap (λ b. lowered b (k + 1)) (eq-false (k + 1) 0 (λ e. omega (arith, e))) ∙ ap done (omega arith)

pub index-sound : (w : List ℕ) (n : ℕ) → index w ≡ Ok n → (w ≡ decimal (n + 1)) × (n < 4294967295)
unfolding index
index-sound w n h =
    let b = on-bound (number 4294967295 w) (λ m. lowered (m == 0) m) n h in
    let s = number-sound 4294967295 w b.0 (omega arith) b.1 in
    let e = raised b.0 n b.2 in
    (s.0 ∙ ap decimal e, omega (arith, s.1, e))

pub index-complete : (n : ℕ) → n < 4294967295 → index (decimal (n + 1)) ≡ Ok n
unfolding index
index-complete n h =
    binds (number 4294967295 (decimal (n + 1))) (λ m. lowered (m == 0) m) (n + 1) n (number-complete 4294967295 (n + 1) (omega (arith, h)) (omega (arith, h))) (back n)

-- ---- numbers with a sign
abbrev negated : Bool → ℕ → Read ℤ
negated b n = cond b (Err Malformed) (Ok (neg_ℤ (pos n)))

pub negative-ok : (n : ℕ) → negative (suc n) ≡ Ok (negsuc n)
negative-ok n = ap (λ b. negated b (suc n)) (eq-false (suc n) 0 (λ e. omega (arith, e)))

signed-negative : (n : ℕ) (z : ℤ) → negative n ≡ Ok z → (k : ℕ) × (n ≡ suc k) × (negsuc k ≡ z)
signed-negative zero z h = absurd (never-ok Malformed z h)
signed-negative (suc n) z h = (n, refl, as-ok (negsuc n) z (sym (negative-ok n) ∙ h))

abbrev IsSigned : ℕ → List ℕ → ℤ → Type 0
IsSigned most w z = (w ≡ signed_decimal z) × (unsigned_abs z ≤ most)

abbrev either : ℕ → List ℕ → ℕ → Bool → Read ℤ
either most bs b l = cond l (number most bs >>= negative) (number most (b ∷ bs) >>= positive)

pub signed-sound : (most : ℕ) (w : List ℕ) (z : ℤ) → most < 2 ^ 64 → signed most w ≡ Ok z → IsSigned most w z
unfolding signed
signed-sound most [] z small h = absurd (never-ok Malformed z h)
signed-sound most (b ∷ bs) z small h = by (b == 45) refl h where
  by : (l : Bool) → (b == 45) ≡ l → either most bs b l ≡ done z → IsSigned most (b ∷ bs) z
  by true e k =
      let x = on-bound (number most bs) negative z k in
      let s = number-sound most bs x.0 small x.1 in
      let n = signed-negative x.0 z x.2 in
      let low : suc n.0 ≤ most = omega (arith, s.1, n.1) in
      subst (IsSigned most (b ∷ bs)) n.2 (ap (λ c. c ∷ bs) (eq-true b 45 e) ∙ ap (λ d. 45 ∷ d) (s.0 ∙ ap decimal n.1), low)
  by false e k =
      let x = on-bound (number most (b ∷ bs)) positive z k in
      let s = number-sound most (b ∷ bs) x.0 small x.1 in
      subst (IsSigned most (b ∷ bs)) (as-ok (pos x.0) z x.2) (s.0, s.1)

no-minus : (most : ℕ) (w : List ℕ) → are_digits w ≡ true → 0 < length w → signed most w ≡ (number most w >>= positive)
unfolding signed
no-minus most [] d s = absurd (omega (arith, s))
no-minus most (b ∷ bs) d s =
    let p = digit-in b (and_parts (is_digit b) (are_digits bs) d).0 in
    ap (either most bs b) (eq-false b 45 (λ e. omega (arith, e, p.0)))

pub signed-complete : (most : ℕ) (z : ℤ) → unsigned_abs z ≤ most → most < 2 ^ 64 → signed most (signed_decimal z) ≡ Ok z
unfolding signed
signed-complete most (pos n) l small =
    let low : n ≤ most = l in
    let m : n < 2 ^ 64 = omega (arith, low, small) in
    no-minus most (decimal n) (digits_decimal own n m) (decimal_nonempty n m) ∙ binds (number most (decimal n)) positive n (pos n) (number-complete most n low m) refl
signed-complete most (negsuc n) l small =
    let low : suc n ≤ most = l in
    let m : suc n < 2 ^ 64 = omega (arith, low, small) in
    binds (number most (decimal (suc n))) negative (suc n) (negsuc n) (number-complete most (suc n) low m) (negative-ok n)
