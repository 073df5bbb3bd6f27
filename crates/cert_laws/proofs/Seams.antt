-- What stands at the end of one token and at the beginning of the next; and numbers that stand still, digit by digit.
use Rattle.std.proofs.Common.{◌≡◌, ℕ, ◌+◌, ◌-◌, ◌*◌, ◌^◌, ◌<◌, true, false, ◌&&◌, ◌||◌, List, [], ◌∷◌, ◌++◌, refl, sym, ap, ◌∙◌, arith, ◌==◌}
use Rattle.std.proofs.lemmas.Bool.Decides.{nat_tests}
use Rattle.cert_text.specs.declared.scan.Token.{Token}
use Rattle.cert_text.specs.declared.scan.Token.TheVariants as tokens
use Rattle.cert_text.specs.declared.scan.Want.{Want}
use Rattle.cert_text.specs.declared.scan.Want.TheVariants as wants
use Rattle.cert_text.specs.Control.{fits_number_at}
use Rattle.cert_text.specs.Letters.{is_letter, is_digit, grown}
use Rattle.cert_laws.specs.Spelled.{AreAll, value_behind}
use Rattle.cert_laws.specs.Refused.{runs_on}
use Rattle.cert_laws.proofs.Follows.{stopped}

no_truth : false ≡ true → ⊥
no_truth h = cc

letter_then : (c x : ℕ) → is_letter c ≡ true → is_letter x ≡ false → ((is_letter c && is_letter x) || (is_digit c && is_digit x)) ≡ false
letter_then c x h k = grind (arith, nat_tests)

digit_then : (c x : ℕ) → is_digit c ≡ true → is_digit x ≡ false → ((is_letter c && is_letter x) || (is_digit c && is_digit x)) ≡ false
digit_then c x h k = grind (arith, nat_tests)

pub letters_stop : (ls : List ℕ) (x : ℕ) (bs : List ℕ) → AreAll is_letter ls → is_letter x ≡ false → runs_on ls (x ∷ bs) ≡ false
letters_stop [] x bs h k = refl
letters_stop (c ∷ []) x bs h k = letter_then c x h.0 k
letters_stop (c ∷ d ∷ ls) x bs h k = letters_stop (d ∷ ls) x bs h.1 k

pub digits_stop : (ds : List ℕ) (x : ℕ) (bs : List ℕ) → AreAll is_digit ds → is_digit x ≡ false → runs_on ds (x ∷ bs) ≡ false
digits_stop [] x bs h k = refl
digits_stop (c ∷ []) x bs h k = digit_then c x h.0 k
digits_stop (c ∷ d ∷ ds) x bs h k = digits_stop (d ∷ ds) x bs h.1 k

letter_ends : (c x : ℕ) → is_letter c ≡ true → ((is_letter c && is_letter x) || (is_digit c && is_digit x)) ≡ false → is_letter x ≡ false
letter_ends c x h k = grind (arith, nat_tests)

digit_ends : (c x : ℕ) → is_digit c ≡ true → ((is_letter c && is_letter x) || (is_digit c && is_digit x)) ≡ false → is_digit x ≡ false
digit_ends c x h k = grind (arith, nat_tests)

pub letters_end : (c : ℕ) (ls : List ℕ) (x : ℕ) (bs : List ℕ) → AreAll is_letter (c ∷ ls) → runs_on (c ∷ ls) (x ∷ bs) ≡ false → is_letter x ≡ false
letters_end c [] x bs h k = letter_ends c x h.0 k
letters_end c (d ∷ ls) x bs h k = letters_end d ls x bs h.1 k

pub digits_end : (c : ℕ) (ds : List ℕ) (x : ℕ) (bs : List ℕ) → AreAll is_digit (c ∷ ds) → runs_on (c ∷ ds) (x ∷ bs) ≡ false → is_digit x ≡ false
digits_end c [] x bs h k = digit_ends c x h.0 k
digits_end c (d ∷ ds) x bs h k = digits_end d ds x bs h.1 k

-- the value of digits as the machine has it
abbrev pub grown_behind : ℕ → List ℕ → ℕ
grown_behind n [] = n
grown_behind n (d ∷ ds) = grown_behind (grown n d) ds

pub digits_more : (ds : List ℕ) (x n : ℕ) → grown_behind n (ds ++ x ∷ []) ≡ grown (grown_behind n ds) x
digits_more [] x n = refl
digits_more (d ∷ ds) x n = digits_more ds x (grown n d)

-- a digit more of a number that stands still
pub stopped_grown : (n d : ℕ) → grown (stopped n) d ≡ stopped (n * 10 + (d - 48))
unfolding grown stopped
stopped_grown n d = omega arith

pub stopped_value : (ds : List ℕ) (n : ℕ) → grown_behind (stopped n) ds ≡ stopped (value_behind n ds)
stopped_value [] n = refl
stopped_value (d ∷ ds) n = ap (λ m. grown_behind m ds) (stopped_grown n d) ∙ stopped_value ds (n * 10 + (d - 48))

pub stopped_none : stopped 0 ≡ 0
unfolding stopped
stopped_none = omega arith

pub stopped_small : (n : ℕ) → stopped n < 2 ^ 63 → stopped n ≡ n
unfolding stopped
stopped_small n h = omega (arith, h)

-- the number of a header is one digit
abbrev pub IsDigits : Want → List ℕ → Type 0
IsDigits wants.HeaderNumber cs = cs ≡ 50 ∷ []
IsDigits _ cs = Unit {0}

abbrev pub IsExact : Token → Want → List ℕ → Type 0
IsExact (tokens.Word w) want cs = Unit {0}
IsExact (tokens.Number n) want cs = IsDigits want cs
IsExact (tokens.Sign c) want cs = Unit {0}

two : (x : ℕ) → is_digit x ≡ true → (grown 0 x == 2) ≡ true → x ≡ 50
unfolding grown
two x h e = grind (arith, nat_tests)

pub first_exact : (want : Want) (number x : ℕ) → is_digit x ≡ true → fits_number_at want number (grown 0 x) ≡ true → IsDigits want (x ∷ [])
first_exact wants.HeaderNumber number x h f = ap (λ y. y ∷ []) (two x h f)
first_exact (wants.Block header) number x h f = tt
first_exact _ number x h f = tt

not_two : (x : ℕ) → is_digit x ≡ true → (grown 2 x == 2) ≡ false
unfolding grown
not_two x h = grind (arith, nat_tests)

is_two : grown 0 50 ≡ 2
unfolding grown
is_two = omega arith

pub more_exact : (want : Want) (number n x : ℕ) (cs : List ℕ) → is_digit x ≡ true → IsDigits want cs → n ≡ grown_behind 0 cs → fits_number_at want number (grown n x) ≡ true → IsDigits want (cs ++ x ∷ [])
more_exact wants.HeaderNumber number n x cs h d e f = absurd (no_truth (sym (not_two x h) ∙ ap (λ m. grown m x == 2) (sym (e ∙ ap (grown_behind 0) d ∙ is_two)) ∙ f))
more_exact (wants.Block header) number n x cs h d e f = tt
more_exact _ number n x cs h d e f = tt
