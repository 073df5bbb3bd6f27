-- A number up to 2^30 is one token where no letter, digit or underscore follows, and it writes that number.
use Rattle.std.proofs.Common.{◌≡◌, ℕ, ◌+◌, ◌-◌, ◌*◌, ◌<◌, ◌≤◌, ◌^◌, nat_lt, Bool, true, false, cond, ◌==◌, List, [], ◌∷◌, ◌++◌, take, length, refl, ap, ◌∙◌, arith}
use Rattle.std.specs.List.{prefix_len}
use Rattle.std.specs.Fmt.{decimal}
use Rattle.std.specs.Char.{digit_value}
use Rattle.std.specs.Str.Parse.{AllDigits, digits_value_after}
use Rattle.std.proofs.Math.Seq.{take-append_seam}
use Rattle.std.proofs.lemmas.Bool.Decides.{nat_tests}
use Rattle.std.proofs.lemmas.Fmt.{decimal_is_IsNumeral}
use Rattle.std.proofs.lemmas.Str.{digit_value_digit}
use Rattle.std.proofs.lemmas.Str.Parse.{digit_from_value}
use Rattle.st_tokens.specs.declared.kind.TokenKind.TheVariants.{Numeral}
use Rattle.st_tokens.specs.declared.kind.Front.TheVariants.{Whole, Long}
use Rattle.st_tokens.specs.Text.{front, is_letter, is_digit, is_blank, is_word_byte, numeral, value_from, value_of}
use Rattle.printed_formulas.specs.Loose.{IsLoose}
use Rattle.printed_formulas.proofs.Pieces.{Piece, OneToken, token}

abbrev pub AreDigits : List ℕ → Type 0
AreDigits ds = AllDigits 10 ds

digit_is : (d : ℕ) → digit_value d < 10 → is_digit d ≡ true
digit_is d h = let r = digit_from_value d h in grind (arith, nat_tests, r)

digit_first : (d : ℕ) → is_digit d ≡ true → (is_blank d ≡ false) × ((d == 37) ≡ false) × (is_letter d ≡ false)
digit_first d e = (grind (arith, nat_tests, e), grind (arith, nat_tests, e), grind (arith, nat_tests, e))

not_word : (b : ℕ) → is_word_byte b ≡ false → is_digit b ≡ false
not_word b e = grind (arith, nat_tests, e)

digits_prefix : (ds after : List ℕ) → AreDigits ds → IsLoose after → prefix_len is_digit (ds ++ after) ≡ length ds
digits_prefix [] [] h l = refl
digits_prefix [] (c ∷ after) h l = rw (not_word c l) refl
digits_prefix (d ∷ ds) after h l = rw (digit_is d h.0) (omega (arith, digits_prefix ds after h.1 l))

value_same : (n : ℕ) (ds : List ℕ) → AreDigits ds → value_from n ds ≡ digits_value_after 10 n ds
value_same n [] h = refl
value_same n (d ∷ ds) h =
    let r = digit_from_value d h.0 in
    let e : 10 * n + (d - 48) ≡ n * 10 + digit_value d = omega (arith, digit_value_digit d r) in
    ap (λ (m : ℕ). value_from m ds) e ∙ value_same (n * 10 + digit_value d) ds h.1

pub value_decimal : (n : ℕ) → n < 2 ^ 64 → value_of (decimal n) ≡ n
value_decimal n h = let k = decimal_is_IsNumeral n h in value_same 0 (decimal n) k.0.1 ∙ k.1

pub small : (n : ℕ) → n ≤ 2 ^ 30 → nat_lt (2 ^ 30) n ≡ false
small n h = grind (arith, nat_tests, h)

pub digits_front : (ds after : List ℕ) → 0 < length ds → AreDigits ds → value_of ds ≤ 2 ^ 30 → IsLoose after → front (ds ++ after) ≡ Whole Numeral (length ds)
digits_front [] after some h v l = absurd (omega arith)
digits_front (d ∷ ds) after some h v l =
    let digit = digit_is d h.0 in
    let first = digit_first d digit in
    let long : 1 + prefix_len is_digit (ds ++ after) ≡ length (d ∷ ds) = omega (arith, digits_prefix ds after h.1 l) in
    rw (first.0, first.1, first.2, digit)
    (ap (λ (n : ℕ). numeral (take n (d ∷ ds ++ after)) n) long
    ∙ ap (λ (s : List ℕ). numeral s (length (d ∷ ds))) (take-append_seam (d ∷ ds) after)
    ∙ ap (λ (k : Bool). cond k Long (Whole Numeral (length (d ∷ ds)))) (small (value_of (d ∷ ds)) v))

below : (n : ℕ) → n ≤ 2 ^ 30 → n < 2 ^ 64
below n h = omega (arith, h)

pub number_front : (n : ℕ) (after : List ℕ) → n ≤ 2 ^ 30 → IsLoose after → front (decimal n ++ after) ≡ Whole Numeral (length (decimal n))
number_front n after h l =
    let k = decimal_is_IsNumeral n (below n h) in
    digits_front (decimal n) after k.0.0 k.0.1 (rw (value_decimal n (below n h)) h) l

pub number_value : (n : ℕ) → n ≤ 2 ^ 30 → value_of (decimal n) ≡ n
number_value n h = value_decimal n (below n h)

pub number_piece : (n : ℕ) → n ≤ 2 ^ 30 → Piece IsLoose (decimal n) (OneToken Numeral (decimal n))
number_piece n h = token IsLoose Numeral (decimal n) (decimal_is_IsNumeral n (below n h)).0.0 (λ after l. number_front n after h l)

-- digits go on with a word
pub digit_word : (d : ℕ) → digit_value d < 10 → is_word_byte d ≡ true
digit_word d h = let r = digit_from_value d h in grind (arith, nat_tests, r)
