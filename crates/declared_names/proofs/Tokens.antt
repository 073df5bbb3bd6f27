-- The names among the tokens of a text.
use Rattle.std.proofs.Common.{◌≡◌, ℕ, suc, ◌+◌, Bool, true, false, cond, ◌==◌, List, [], ◌∷◌, ◌++◌, take, drop, refl, sym, ap, subst, ◌∙◌, arith}
use Rattle.std.specs.List.{prefix_len}
use Rattle.st_tokens.specs.declared.kind.TokenKind.{TokenKind}
use Rattle.st_tokens.specs.declared.kind.TokenKind.TheVariants as kinds
use Rattle.st_tokens.specs.declared.kind.Front.{Front}
use Rattle.st_tokens.specs.declared.kind.Front.TheVariants as fronts
use Rattle.st_tokens.specs.Text.{front, front_at, is_blank, is_letter, is_digit, is_word_byte, is_line_byte, is_keyword, value_of, symbol_len, numeral, symbol, word_kind}
use Rattle.st_tokens.specs.Stream.{◌++>◌, Lexeme, ends, AreThere, text_stream}
use Rattle.st_tokens.proofs.Shifting.{tokens_are_there}
use Rattle.st_reading.specs.declared.sign.Sign.{Sign}
use Rattle.st_reading.specs.declared.sign.Sign.TheVariants as signs
use Rattle.st_reading.specs.Sign.{kind_sign}
use Rattle.st_reading.specs.Reading.{is_name}
use Rattle.st_reading.specs.Spelling.{IsName}
use Rattle.typing_laws.proofs.Signs as of_signs
use Rattle.declared_names.specs.Words.{AreWordBytes, IsWord}

prefix_bytes : (bs : List ℕ) → AreWordBytes (take (prefix_len is_word_byte bs) bs)
prefix_bytes [] = tt
prefix_bytes (b ∷ bs) = go (is_word_byte b) refl (prefix_bytes bs)
  where
    go : (c : Bool) → is_word_byte b ≡ c → AreWordBytes (take (prefix_len is_word_byte bs) bs) → AreWordBytes (take (cond c (1 + prefix_len is_word_byte bs) 0) (b ∷ bs))
    go true e r = let n : 1 + prefix_len is_word_byte bs ≡ suc (prefix_len is_word_byte bs) = omega arith in subst (λ (k : ℕ). AreWordBytes (take k (b ∷ bs))) (sym n) (e, r)
    go false e r = tt

-- what is known of the front of a text s
abbrev Known : List ℕ → Front → Type 0
Known s (fronts.Whole kind n) = kind ≡ kinds.Name → IsWord (take n s)
Known s _ = Unit {0}

numeral_known : (s : List ℕ) (c : Bool) (n : ℕ) → Known s (cond c fronts.Long (fronts.Whole kinds.Numeral n))
numeral_known s true n = tt
numeral_known s false n = λ e. cc

symbol_known : (s : List ℕ) (c : Bool) (n : ℕ) → Known s (cond c fronts.Bad (fronts.Whole kinds.Symbol n))
symbol_known s true n = tt
symbol_known s false n = λ e. cc

no_keyword : (c : Bool) → cond c kinds.Keyword kinds.Name ≡ kinds.Name → c ≡ false
no_keyword true e = cc
no_keyword false e = refl

word_known : (b : ℕ) (bs : List ℕ) → is_letter b ≡ true → Known (b ∷ bs) (fronts.Whole (word_kind (take (1 + prefix_len is_word_byte bs) (b ∷ bs))) (1 + prefix_len is_word_byte bs))
word_known b bs letter named =
    let n : 1 + prefix_len is_word_byte bs ≡ suc (prefix_len is_word_byte bs) = omega arith in
    let e : take (1 + prefix_len is_word_byte bs) (b ∷ bs) ≡ b ∷ take (prefix_len is_word_byte bs) bs = ap (λ (k : ℕ). take k (b ∷ bs)) n in
    subst IsWord (sym e) (letter, prefix_bytes bs, ap is_keyword (sym e) ∙ no_keyword (is_keyword (take (1 + prefix_len is_word_byte bs) (b ∷ bs))) named)

front_known : (b : ℕ) (bs : List ℕ) → Known (b ∷ bs) (front_at b bs)
front_known b bs = blank (is_blank b)
  where
    rest : Front
    rest = numeral (take (1 + prefix_len is_digit bs) (b ∷ bs)) (1 + prefix_len is_digit bs)

    digit : (c : Bool) → Known (b ∷ bs) (cond c rest (symbol (symbol_len (b ∷ bs))))
    digit true = numeral_known (b ∷ bs) _ (1 + prefix_len is_digit bs)
    digit false = symbol_known (b ∷ bs) (symbol_len (b ∷ bs) == 0) (symbol_len (b ∷ bs))

    letter : (c : Bool) → is_letter b ≡ c → Known (b ∷ bs) (cond c (fronts.Whole (word_kind (take (1 + prefix_len is_word_byte bs) (b ∷ bs))) (1 + prefix_len is_word_byte bs)) (cond (is_digit b) rest (symbol (symbol_len (b ∷ bs)))))
    letter true e = word_known b bs e
    letter false e = digit (is_digit b)

    comment : (c : Bool) → Known (b ∷ bs) (cond c (fronts.Blank (1 + prefix_len is_line_byte bs)) (cond (is_letter b) (fronts.Whole (word_kind (take (1 + prefix_len is_word_byte bs) (b ∷ bs))) (1 + prefix_len is_word_byte bs)) (cond (is_digit b) rest (symbol (symbol_len (b ∷ bs))))))
    comment true = tt
    comment false = letter (is_letter b) refl

    blank : (c : Bool) → Known (b ∷ bs) (cond c (fronts.Blank 1) (cond (b == 37) (fronts.Blank (1 + prefix_len is_line_byte bs)) (cond (is_letter b) (fronts.Whole (word_kind (take (1 + prefix_len is_word_byte bs) (b ∷ bs))) (1 + prefix_len is_word_byte bs)) (cond (is_digit b) rest (symbol (symbol_len (b ∷ bs)))))))
    blank true = tt
    blank false = comment (b == 37)

all_known : (s : List ℕ) → Known s (front s)
all_known [] = tt
all_known (b ∷ bs) = front_known b bs

-- only a name has the sign of names
abbrev OnlyNames : TokenKind → Sign → Type 0
OnlyNames k g = is_name g ≡ true → k ≡ kinds.Name

numeral_only : (c : Bool) (n : ℕ) → is_name (cond c signs.Other (signs.Numeral n)) ≡ true → kinds.Numeral ≡ kinds.Name
numeral_only true n e = cc
numeral_only false n e = cc

only_names : (k : TokenKind) (s : List ℕ) → OnlyNames k (kind_sign k s)
only_names kinds.Name s = λ e. refl
only_names kinds.Keyword s = of_signs.keyword (OnlyNames kinds.Keyword) (λ e. cc) (λ m e. cc) s
only_names kinds.Symbol s = of_signs.symbol (OnlyNames kinds.Symbol) (λ e. cc) (λ m e. cc) s
only_names kinds.Numeral s = numeral_only _ (value_of s)

name_word : (text : List ℕ) (t : Lexeme) (n : ℕ) → front (drop t.start text) ≡ fronts.Whole t.kind n → t.text ≡ take n (drop t.start text) → IsName t → IsWord t.text
name_word text t n f e h = subst IsWord (sym e) (go (front (drop t.start text)) f (all_known (drop t.start text)))
  where
    go : (x : Front) → x ≡ fronts.Whole t.kind n → Known (drop t.start text) x → IsWord (take n (drop t.start text))
    go x i k = (rw i at k) (only_names t.kind t.text h)

-- each name among the tokens is one of texts
abbrev pub NamesAre : List Lexeme → Type 0
NamesAre [] = Unit {0}
NamesAre (t ∷ ts) = (IsName t → IsWord t.text) × NamesAre ts

pub parts : (a b : List Lexeme) → NamesAre (a ++ b) → NamesAre a × NamesAre b
parts [] b h = (tt, h)
parts (t ∷ a) b h = let p = parts a b h.1 in ((h.0, p.0), p.1)

there : (text : List ℕ) (ts : List Lexeme) (place : ℕ) → AreThere text (ts ++> ends place) → NamesAre ts
there text [] place h = tt
there text (t ∷ ts) place h = (name_word text t h.0.0 h.0.1 h.0.2, there text ts place h.1)

pub names_of_text : (text : List ℕ) (ts : List Lexeme) (place : ℕ) → text_stream text ≡ ts ++> ends place → NamesAre ts
names_of_text text ts place e = there text ts place (subst (AreThere text) e (tokens_are_there text))
