-- In the midst of a number that the machine has not refused, digits lead on to one that may stand there.
use Rattle.std.proofs.Common.{◌≡◌, ℕ, ◌+◌, ◌-◌, ◌*◌, ◌/◌, ◌%◌, ◌^◌, ◌<◌, ◌≤◌, Bool, true, false, cond, ◌||◌, inl, inr, List, [], ◌∷◌, ◌++◌, refl, sym, ap, ◌∙◌, subst, arith, nat_lt, nat_le, ◌==◌, append_assoc}
use Rattle.std.proofs.lemmas.Bool.Decides.{nat_tests}
use Rattle.cert_text.specs.declared.scan.Token.TheVariants as tokens
use Rattle.cert_text.specs.declared.scan.Want.{Want}
use Rattle.cert_text.specs.declared.scan.Want.TheVariants as wants
use Rattle.cert_text.specs.declared.scan.Action.TheVariants as actions
use Rattle.cert_text.specs.declared.scan.Given.TheVariants as givens
use Rattle.cert_text.specs.Control.{give_at, fits_number_at, begins_number}
use Rattle.cert_text.specs.Letters.{is_blank, is_digit}
use Rattle.cert_text.specs.Run.{scan_at}
use Rattle.cert_laws.specs.Spelled.{AreAll, value_behind}
use Rattle.cert_laws.proofs.Givens.{is_inside}
use Rattle.cert_laws.proofs.Prefixes.{Begins, begins_told}
use Rattle.cert_laws.proofs.Writing.{digits_are}
use Rattle.cert_laws.proofs.Follows.{stopped}
use Rattle.cert_laws.proofs.Seams.{IsDigits, stopped_small}
use Rattle.cert_laws.proofs.Tails.{Tail}
use Rattle.cert_laws.proofs.Opens.{is_wrong, wide, behind_starts, token_tail}
use Rattle.cert_laws.proofs.OpenWords.{over_or_on, not_or}

no_truth : false ≡ true → ⊥
no_truth h = cc

value_append : (xs ys : List ℕ) (n : ℕ) → value_behind n (xs ++ ys) ≡ value_behind (value_behind n xs) ys
value_append [] ys n = refl
value_append (x ∷ xs) ys n = value_append xs ys (n * 10 + (x - 48))

all_append : (test : ℕ → Bool) (xs ys : List ℕ) → AreAll test xs → AreAll test ys → AreAll test (xs ++ ys)
all_append test [] ys h k = k
all_append test (x ∷ xs) ys h k = (h.0, all_append test xs ys h.1 k)

value_grows : (ds : List ℕ) (n m : ℕ) → n ≤ m → value_behind n ds ≤ value_behind m ds
value_grows [] n m h = h
value_grows (d ∷ ds) n m h = value_grows ds (n * 10 + (d - 48)) (m * 10 + (d - 48)) (omega (arith, h))

-- digits that make of v a number not below m
abbrev Large : ℕ → ℕ → Type 0
Large v m = (ds : List ℕ) × AreAll is_digit ds × (m ≤ value_behind v ds)

large : (v m : ℕ) → Large v m
large v m =
    let h = digits_are m m (wide m) in
    let ds = h.0 ∷ h.1 in
    let g = value_grows ds 0 v (omega arith) in
    let e = h.4 in
    (ds, h.3, omega (arith, g, e))

-- digits that make of n the number
abbrev Filled : ℕ → ℕ → Type 0
Filled number n = (ds : List ℕ) × AreAll is_digit ds × (value_behind n ds ≡ number)

a_digit : (n : ℕ) → is_digit (48 + n % 10) ≡ true
a_digit n = grind (arith, nat_tests)

one_more : (number m n : ℕ) → n ≡ m / 10 → Filled number m → Filled number n
one_more number m n e f = ((48 + m % 10) ∷ f.0, (a_digit m, f.1), ap (λ k. value_behind k f.0) (let g : n * 10 + (48 + m % 10 - 48) ≡ m = omega (arith, e) in g) ∙ f.2)

from_none : (number : ℕ) → Filled number 0
from_none number = let h = digits_are number number (wide number) in (h.0 ∷ h.1, h.3, h.4)

filled : (number n : ℕ) → Begins number n → Filled number n
filled number n = by where
  itself : Filled number number
  itself = ([], tt, refl)

  f1 : Filled number (number / 10)
  f1 = one_more number number (number / 10) refl itself

  f2 : Filled number (number / 100)
  f2 = one_more number (number / 10) (number / 100) (omega arith) f1

  f3 : Filled number (number / 1000)
  f3 = one_more number (number / 100) (number / 1000) (omega arith) f2

  f4 : Filled number (number / 10000)
  f4 = one_more number (number / 1000) (number / 10000) (omega arith) f3

  f5 : Filled number (number / 100000)
  f5 = one_more number (number / 10000) (number / 100000) (omega arith) f4

  f6 : Filled number (number / 1000000)
  f6 = one_more number (number / 100000) (number / 1000000) (omega arith) f5

  f7 : Filled number (number / 10000000)
  f7 = one_more number (number / 1000000) (number / 10000000) (omega arith) f6

  f8 : Filled number (number / 100000000)
  f8 = one_more number (number / 10000000) (number / 100000000) (omega arith) f7

  f9 : Filled number (number / 1000000000)
  f9 = one_more number (number / 100000000) (number / 1000000000) (omega arith) f8

  at : (m : ℕ) → Filled number m → n ≡ m → Filled number n
  at m f e = subst (Filled number) (sym e) f

  by : Begins number n → Filled number n
  by (inl (inl (inl (inl (inl (inl (inl (inl (inl (inl e)))))))))) = at 0 (from_none number) e
  by (inl (inl (inl (inl (inl (inl (inl (inl (inl (inr e)))))))))) = at number itself e
  by (inl (inl (inl (inl (inl (inl (inl (inl (inr e))))))))) = at (number / 10) f1 e
  by (inl (inl (inl (inl (inl (inl (inl (inr e)))))))) = at (number / 100) f2 e
  by (inl (inl (inl (inl (inl (inl (inr e))))))) = at (number / 1000) f3 e
  by (inl (inl (inl (inl (inl (inr e)))))) = at (number / 10000) f4 e
  by (inl (inl (inl (inl (inr e))))) = at (number / 100000) f5 e
  by (inl (inl (inl (inr e)))) = at (number / 1000000) f6 e
  by (inl (inl (inr e))) = at (number / 10000000) f7 e
  by (inl (inr e)) = at (number / 100000000) f8 e
  by (inr e) = at (number / 1000000000) f9 e

begins_small : (number n : ℕ) → number < 2 ^ 32 → Begins number n → n < 2 ^ 63
begins_small number n h (inl (inl (inl (inl (inl (inl (inl (inl (inl (inl e)))))))))) = omega (arith, h, e)
begins_small number n h (inl (inl (inl (inl (inl (inl (inl (inl (inl (inr e)))))))))) = omega (arith, h, e)
begins_small number n h (inl (inl (inl (inl (inl (inl (inl (inl (inr e))))))))) = omega (arith, h, e)
begins_small number n h (inl (inl (inl (inl (inl (inl (inl (inr e)))))))) = omega (arith, h, e)
begins_small number n h (inl (inl (inl (inl (inl (inl (inr e))))))) = omega (arith, h, e)
begins_small number n h (inl (inl (inl (inl (inl (inr e)))))) = omega (arith, h, e)
begins_small number n h (inl (inl (inl (inl (inr e))))) = omega (arith, h, e)
begins_small number n h (inl (inl (inl (inr e)))) = omega (arith, h, e)
begins_small number n h (inl (inl (inr e))) = omega (arith, h, e)
begins_small number n h (inl (inr e)) = omega (arith, h, e)
begins_small number n h (inr e) = omega (arith, h, e)

not_zero : (x : ℕ) → 1 ≤ x → (x == 0) ≡ false
not_zero x h = grind (arith, nat_tests)

above : (x last : ℕ) → last + 1 ≤ x → nat_le x last ≡ false
above x last h = grind (arith, nat_tests)

itself_is : (n : ℕ) → (n == n) ≡ true
itself_is n = grind (arith, nat_tests)

module _ (number : ℕ) (second : Bool) (d trees : ℕ) (blanks : List ℕ) (b : AreAll is_blank blanks) (c : ℕ) (cs : List ℕ) (all : AreAll is_digit (c ∷ cs)) where
  abbrev value : ℕ
  value = value_behind 0 (c ∷ cs)

  abbrev Opens : Want → Type 0
  Opens want = (more : List ℕ) × Tail number second want d (blanks ++ ((c ∷ cs) ++ more))

  -- with these digits more it is a number that may stand there
  by_digits : (want : Want) (ds : List ℕ) → is_inside want ≡ true → AreAll is_digit ds → is_wrong (give_at want (scan_at number second want d trees) (tokens.Number (value_behind value ds))) ≡ false → Opens want
  by_digits want ds i h e =
      let t = token_tail number second want d trees (tokens.Number (value_behind value ds)) blanks ((c ∷ cs) ++ ds) i e b (c, cs ++ ds, refl, all_append is_digit (c ∷ cs) ds all h, value_append (c ∷ cs) ds 0) in
      (ds ++ t.0, subst (λ xs. Tail number second want d (blanks ++ xs)) (append_assoc (c ∷ cs) ds t.0) t.1)

  by_some : (want : Want) → is_inside want ≡ true → ((x : ℕ) → 1 ≤ x → is_wrong (give_at want (scan_at number second want d trees) (tokens.Number x)) ≡ false) → Opens want
  by_some want i f = let l = large value 1 in by_digits want l.0 i l.1 (f (value_behind value l.0) l.2)

  block_number : number < 2 ^ 32 → (n : ℕ) → n ≡ stopped value → begins_number number n ≡ true → Opens wants.BlockNumber
  block_number k n e f =
      let g = begins_told number n f in
      let small = begins_small number n k g in
      let same : n ≡ value = e ∙ stopped_small value (subst (λ m. m < 2 ^ 63) e small) in
      let l = filled number n g in
      by_digits wants.BlockNumber l.0 refl l.1 (ap (λ m. is_wrong (cond (m == number) (givens.On (scan_at number second (wants.Tree false) d trees) actions.Nothing) givens.Wrong)) (ap (λ m. value_behind m l.0) (sym same) ∙ l.2) ∙ ap (λ x. is_wrong (cond x (givens.On (scan_at number second (wants.Tree false) d trees) actions.Nothing) givens.Wrong)) (itself_is number))

  header_number : IsDigits wants.HeaderNumber (c ∷ cs) → Opens wants.HeaderNumber
  header_number e = let n = behind_starts number d (32 ∷ []) (refl, tt) in (32 ∷ n.0, (blanks, 32 ∷ n.0, ap (λ xs. blanks ++ (xs ++ 32 ∷ n.0)) e, b, n.1))

  pub opens_number : (want : Want) (n : ℕ) → number < 2 ^ 32 → n ≡ stopped value → IsDigits want (c ∷ cs) → fits_number_at want number n ≡ true → Opens want
  opens_number wants.HeaderNumber n k e i f = header_number i
  opens_number wants.BlockNumber n k e i f = block_number k n e f
  opens_number (wants.Subject branching) n k e i f = by_some (wants.Subject branching) refl (λ x h. not_or (x == 0) _ (not_zero x h) (over_or_on (nat_lt 4294967295 x) _ refl))
  opens_number (wants.Row signed count) n k e i f = by_some (wants.Row signed count) refl (λ x h. not_or (x == 0) _ (not_zero x h) (over_or_on (nat_lt 4294967295 x || nat_le 4096 count) _ refl))
  opens_number (wants.Multiplier signed count row) n k e i f = by_some (wants.Multiplier signed count row) refl (λ x h. over_or_on (nat_le 1099511627776 x) _ refl)
  opens_number (wants.Negative count row) n k e i f = by_some (wants.Negative count row) refl (λ x h. over_or_on (nat_le 1099511627776 x) _ refl)
  opens_number (wants.Coefficient first negative last) n k e i f = by_some (wants.Coefficient first negative last) refl (λ x h. not_or (x == 0) _ (not_zero x h) (over_or_on (nat_lt 1152921504606846976 x) _ refl))
  opens_number (wants.Variable negative size last) n k e i f = let l = large value (last + 1) in by_digits (wants.Variable negative size last) l.0 refl l.1 (not_or (nat_le (value_behind value l.0) last) _ (above (value_behind value l.0) last l.2) (over_or_on (nat_lt 4294967295 (value_behind value l.0)) _ refl))
  opens_number (wants.Constant negative) n k e i f = by_some (wants.Constant negative) refl (λ x h. over_or_on (nat_lt 1152921504606846976 x) _ refl)
  opens_number _ n k e i f = absurd (no_truth f)
