-- A name of a text is ASCII.
use Rattle.std.proofs.Common.{◌≡◌, ℕ, suc, ◌+◌, Bool, true, false, cond, ◌==◌, nat_lt, List, [], ◌∷◌, take, drop, refl, arith}
use Rattle.std.proofs.lemmas.Bool.Decides.{nat_tests}
use Rattle.std.specs.List.{prefix_len}
use Rattle.st_tokens.specs.declared.kind.TokenKind.{TokenKind}
use Rattle.st_tokens.specs.declared.kind.TokenKind.TheVariants as kinds
use Rattle.st_tokens.specs.declared.kind.Front.{Front}
use Rattle.st_tokens.specs.declared.kind.Front.TheVariants as fronts
use Rattle.st_tokens.specs.Text.{front, front_at, is_blank, is_letter, is_digit, is_word_byte, is_line_byte, value_of, symbol_len, numeral, symbol, word_kind}
use Rattle.st_tokens.specs.Stream.{Lexeme}
use Rattle.st_reading.specs.declared.sign.Sign.{Sign}
use Rattle.st_reading.specs.declared.sign.Sign.TheVariants as signs
use Rattle.st_reading.specs.Sign.{kind_sign, sign_of}
use Rattle.st_reading.specs.Reading.{is_name}
use Rattle.expression_typer.specs.Naming.{is_text}
use Rattle.typing_laws.proofs.Signs as of_signs

letter_ascii : (b : ℕ) → is_letter b ≡ true → nat_lt b 128 ≡ true
letter_ascii b e = grind (arith, nat_tests, e)

word_ascii : (b : ℕ) → is_word_byte b ≡ true → nat_lt b 128 ≡ true
word_ascii b e = grind (arith, nat_tests, e)

text_more : (b : ℕ) (bs : List ℕ) → nat_lt b 128 ≡ true → is_text bs ≡ true → is_text (b ∷ bs) ≡ true
text_more b bs h k = rw (h, k) refl

-- one byte and a text behind it
taken : (b n : ℕ) (bs : List ℕ) → nat_lt b 128 ≡ true → is_text (take n bs) ≡ true → is_text (take (1 + n) (b ∷ bs)) ≡ true
taken b n bs h k = let e : 1 + n ≡ suc n = omega arith in rw e (text_more b (take n bs) h k)

prefix_text : (bs : List ℕ) → is_text (take (prefix_len is_word_byte bs) bs) ≡ true
prefix_text [] = refl
prefix_text (b ∷ bs) = go (is_word_byte b) refl (prefix_text bs)
  where
    go : (c : Bool) → is_word_byte b ≡ c → is_text (take (prefix_len is_word_byte bs) bs) ≡ true → is_text (take (cond c (1 + prefix_len is_word_byte bs) 0) (b ∷ bs)) ≡ true
    go true e r = taken b (prefix_len is_word_byte bs) bs (word_ascii b e) r
    go false e r = refl

-- what is known of the front of a text s
abbrev Known : List ℕ → Front → Type 0
Known s (fronts.Whole kind n) = kind ≡ kinds.Name → is_text (take n s) ≡ true
Known s _ = Unit {0}

numeral_known : (s : List ℕ) (c : Bool) (n : ℕ) → Known s (cond c fronts.Long (fronts.Whole kinds.Numeral n))
numeral_known s true n = tt
numeral_known s false n = λ e. cc

symbol_known : (s : List ℕ) (c : Bool) (n : ℕ) → Known s (cond c fronts.Bad (fronts.Whole kinds.Symbol n))
symbol_known s true n = tt
symbol_known s false n = λ e. cc

front_known : (b : ℕ) (bs : List ℕ) → Known (b ∷ bs) (front_at b bs)
front_known b bs = blank (is_blank b)
  where
    rest : Front
    rest = numeral (take (1 + prefix_len is_digit bs) (b ∷ bs)) (1 + prefix_len is_digit bs)

    digit : (c : Bool) → Known (b ∷ bs) (cond c rest (symbol (symbol_len (b ∷ bs))))
    digit true = numeral_known (b ∷ bs) _ (1 + prefix_len is_digit bs)
    digit false = symbol_known (b ∷ bs) (symbol_len (b ∷ bs) == 0) (symbol_len (b ∷ bs))

    letter : (c : Bool) → is_letter b ≡ c → Known (b ∷ bs) (cond c (fronts.Whole (word_kind (take (1 + prefix_len is_word_byte bs) (b ∷ bs))) (1 + prefix_len is_word_byte bs)) (cond (is_digit b) rest (symbol (symbol_len (b ∷ bs)))))
    letter true e = λ k. taken b (prefix_len is_word_byte bs) bs (letter_ascii b e) (prefix_text bs)
    letter false e = digit (is_digit b)

    comment : (c : Bool) → Known (b ∷ bs) (cond c (fronts.Blank (1 + prefix_len is_line_byte bs)) (cond (is_letter b) (fronts.Whole (word_kind (take (1 + prefix_len is_word_byte bs) (b ∷ bs))) (1 + prefix_len is_word_byte bs)) (cond (is_digit b) rest (symbol (symbol_len (b ∷ bs))))))
    comment true = tt
    comment false = letter (is_letter b) refl

    blank : (c : Bool) → Known (b ∷ bs) (cond c (fronts.Blank 1) (cond (b == 37) (fronts.Blank (1 + prefix_len is_line_byte bs)) (cond (is_letter b) (fronts.Whole (word_kind (take (1 + prefix_len is_word_byte bs) (b ∷ bs))) (1 + prefix_len is_word_byte bs)) (cond (is_digit b) rest (symbol (symbol_len (b ∷ bs)))))))
    blank true = tt
    blank false = comment (b == 37)

all_known : (s : List ℕ) → Known s (front s)
all_known [] = tt
all_known (b ∷ bs) = front_known b bs

-- only a name has the sign of names
abbrev OnlyNames : TokenKind → Sign → Type 0
OnlyNames k g = is_name g ≡ true → k ≡ kinds.Name

numeral_only : (c : Bool) (n : ℕ) → is_name (cond c signs.Other (signs.Numeral n)) ≡ true → kinds.Numeral ≡ kinds.Name
numeral_only true n e = cc
numeral_only false n e = cc

only_names : (k : TokenKind) (s : List ℕ) → OnlyNames k (kind_sign k s)
only_names kinds.Name s = λ e. refl
only_names kinds.Keyword s = of_signs.keyword (OnlyNames kinds.Keyword) (λ e. cc) (λ m e. cc) s
only_names kinds.Symbol s = of_signs.symbol (OnlyNames kinds.Symbol) (λ e. cc) (λ m e. cc) s
only_names kinds.Numeral s = numeral_only _ (value_of s)

pub name_plain : (text : List ℕ) (t : Lexeme) (n : ℕ) → front (drop t.start text) ≡ fronts.Whole t.kind n → t.text ≡ take n (drop t.start text) → is_name (sign_of t) ≡ true → is_text t.text ≡ true
name_plain text t n f e h = rw e (go (front (drop t.start text)) f (all_known (drop t.start text)))
  where
    go : (x : Front) → x ≡ fronts.Whole t.kind n → Known (drop t.start text) x → is_text (take n (drop t.start text)) ≡ true
    go x i k = (rw i at k) (only_names t.kind t.text h)
