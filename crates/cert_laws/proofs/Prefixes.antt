-- Digits in front of a number that may stand somewhere may stand there too.
use Rattle.std.proofs.Common.{◌≡◌, ℕ, ◌+◌, ◌*◌, ◌/◌, ◌^◌, ◌<◌, ◌≤◌, Bool, true, false, ◌||◌, ◌⊎◌, inl, inr, refl, ap, ◌∙◌, arith, ◌==◌}
use Rattle.std.proofs.lemmas.Bool.Decides.{nat_tests}
use Rattle.cert_text.specs.declared.scan.Want.{Want}
use Rattle.cert_text.specs.declared.scan.Want.TheVariants as wants
use Rattle.cert_text.specs.Control.{fits_number_at, begins_number}

one_of : {a b : Bool} {A B : Type 0} → (a ≡ true → A) → (b ≡ true → B) → (a || b) ≡ true → A ⊎ B
one_of {a = a} {b = b} {A = A} {B = B} f g h = pick a f h where
  pick : (c : Bool) → (c ≡ true → A) → (c || b) ≡ true → A ⊎ B
  pick true k e = inl (k refl)
  pick false k e = inr (g e)

told_by : {a b : Bool} {A B : Type 0} → (A → a ≡ true) → (B → b ≡ true) → A ⊎ B → (a || b) ≡ true
told_by {a = a} {b = b} f g (inl x) = ap (λ c. c || b) (f x)
told_by {a = a} {b = b} f g (inr y) = ap (λ c. a || c) (g y) ∙ either a where
  either : (c : Bool) → (c || true) ≡ true
  either true = refl
  either false = refl

same : (a b : ℕ) → (a == b) ≡ true → a ≡ b
same a b h = grind (arith, nat_tests)

is_same : (a b : ℕ) → a ≡ b → (a == b) ≡ true
is_same a b h = grind (arith, nat_tests)

-- nothing yet, or the number without some of its last digits
abbrev pub Begins : ℕ → ℕ → Type 0
Begins number n = (((((((((((n ≡ 0) ⊎ (n ≡ number)) ⊎ (n ≡ (number / 10))) ⊎ (n ≡ (number / 100))) ⊎ (n ≡ (number / 1000))) ⊎ (n ≡ (number / 10000))) ⊎ (n ≡ (number / 100000))) ⊎ (n ≡ (number / 1000000))) ⊎ (n ≡ (number / 10000000))) ⊎ (n ≡ (number / 100000000))) ⊎ (n ≡ (number / 1000000000)))

pub begins_told : (number n : ℕ) → begins_number number n ≡ true → Begins number n
unfolding begins_number
begins_told number n = (one_of (one_of (one_of (one_of (one_of (one_of (one_of (one_of (one_of (one_of (same n 0) (same n number)) (same n (number / 10))) (same n (number / 100))) (same n (number / 1000))) (same n (number / 10000))) (same n (number / 100000))) (same n (number / 1000000))) (same n (number / 10000000))) (same n (number / 100000000))) (same n (number / 1000000000)))

told_begins : (number n : ℕ) → Begins number n → begins_number number n ≡ true
unfolding begins_number
told_begins number n = (told_by (told_by (told_by (told_by (told_by (told_by (told_by (told_by (told_by (told_by (is_same n 0) (is_same n number)) (is_same n (number / 10))) (is_same n (number / 100))) (is_same n (number / 1000))) (is_same n (number / 10000))) (is_same n (number / 100000))) (is_same n (number / 1000000))) (is_same n (number / 10000000))) (is_same n (number / 100000000))) (is_same n (number / 1000000000)))

-- what stands before the last digit begins the number too
shorter : (number n d : ℕ) → number < 2 ^ 32 → d ≤ 9 → Begins number (n * 10 + d) → Begins number n
shorter number n d h k (inl (inl (inl (inl (inl (inl (inl (inl (inl (inl e)))))))))) = (inl (inl (inl (inl (inl (inl (inl (inl (inl (inl (omega arith)))))))))))
shorter number n d h k (inl (inl (inl (inl (inl (inl (inl (inl (inl (inr e)))))))))) = (inl (inl (inl (inl (inl (inl (inl (inl (inr (omega arith))))))))))
shorter number n d h k (inl (inl (inl (inl (inl (inl (inl (inl (inr e))))))))) = (inl (inl (inl (inl (inl (inl (inl (inr (omega arith)))))))))
shorter number n d h k (inl (inl (inl (inl (inl (inl (inl (inr e)))))))) = (inl (inl (inl (inl (inl (inl (inr (omega arith))))))))
shorter number n d h k (inl (inl (inl (inl (inl (inl (inr e))))))) = (inl (inl (inl (inl (inl (inr (omega arith)))))))
shorter number n d h k (inl (inl (inl (inl (inl (inr e)))))) = (inl (inl (inl (inl (inr (omega arith))))))
shorter number n d h k (inl (inl (inl (inl (inr e))))) = (inl (inl (inl (inr (omega arith)))))
shorter number n d h k (inl (inl (inl (inr e)))) = (inl (inl (inr (omega arith))))
shorter number n d h k (inl (inl (inr e))) = (inl (inr (omega arith)))
shorter number n d h k (inl (inr e)) = (inr (omega arith))
shorter number n d h k (inr e) = (inl (inl (inl (inl (inl (inl (inl (inl (inl (inl (omega arith)))))))))))

pub begins_itself : (number n : ℕ) → (n == number) ≡ true → begins_number number n ≡ true
begins_itself number n e = told_begins number n (inl (inl (inl (inl (inl (inl (inl (inl (inl (inr (same n number e)))))))))))

-- the number of a header is one digit, with no zeros in front
abbrev pub NotHeader : Want → Type 0
NotHeader wants.HeaderNumber = ⊥
NotHeader _ = Unit {0}

pub prefix_fits : (want : Want) (number n d : ℕ) → number < 2 ^ 32 → d ≤ 9 → fits_number_at want number (n * 10 + d) ≡ true → NotHeader want → fits_number_at want number n ≡ true
prefix_fits (wants.Block header) number n d l k h i = h
prefix_fits wants.HeaderNumber number n d l k h i = absurd i
prefix_fits wants.HeaderEnd number n d l k h i = h
prefix_fits wants.BlockNumber number n d l k h i = told_begins number n (shorter number n d l k (begins_told number (n * 10 + d) h))
prefix_fits (wants.Tree end) number n d l k h i = h
prefix_fits (wants.Subject branching) number n d l k h i = refl
prefix_fits (wants.Branches branching m) number n d l k h i = h
prefix_fits (wants.Picks signed) number n d l k h i = h
prefix_fits (wants.Row signed count) number n d l k h i = refl
prefix_fits (wants.Times signed count row) number n d l k h i = h
prefix_fits (wants.Multiplier signed count row) number n d l k h i = refl
prefix_fits (wants.Negative count row) number n d l k h i = refl
prefix_fits (wants.MorePicks signed count) number n d l k h i = h
prefix_fits wants.Terms number n d l k h i = h
prefix_fits (wants.Coefficient first negative last) number n d l k h i = refl
prefix_fits (wants.Colon negative size last) number n d l k h i = h
prefix_fits (wants.Variable negative size last) number n d l k h i = refl
prefix_fits (wants.MoreTerms last) number n d l k h i = h
prefix_fits (wants.Constant negative) number n d l k h i = refl
prefix_fits (wants.ConstantEnd negative size) number n d l k h i = h
prefix_fits (wants.CutBranches negative size) number n d l k h i = h
prefix_fits wants.End number n d l k h i = h
prefix_fits wants.Whole number n d l k h i = h
