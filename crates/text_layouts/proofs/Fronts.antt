-- A piece is read as it is where the byte behind it can't be part of it.
use Rattle.std.proofs.Common.{◌≡◌, ℕ, ◌+◌, ◌^◌, nat_lt, Bool, true, false, cond, ◌&&◌, ◌||◌, ◌==◌, List, [], ◌∷◌, ◌++◌, take, length, refl, sym, ap, ◌∙◌, arith}
use Rattle.std.specs.List.{prefix_len}
use Rattle.std.proofs.lemmas.List.{take-append-le}
use Rattle.st_tokens.specs.declared.kind.TokenKind.{TokenKind}
use Rattle.st_tokens.specs.declared.kind.TokenKind.TheVariants.{Symbol, Numeral}
use Rattle.st_tokens.specs.declared.kind.Front.{Front}
use Rattle.st_tokens.specs.declared.kind.Front.TheVariants.{Blank, Whole, Bad, Long}
use Rattle.st_tokens.specs.Text.{is_digit, is_letter, is_blank, is_word_byte, is_line_byte, is_pair, is_single, is_arrow, short_len, symbol_len, value_of, word_kind, numeral, symbol, front, front_at}

-- the byte is no second one of a symbol
pub record IsAlone (c : ℕ) : Type 0 where
  pub equals : (c == 61) ≡ false
  pub colon : (c == 58) ≡ false
  pub bar : (c == 124) ≡ false
  pub back : (c == 92) ≡ false
  pub slash : (c == 47) ≡ false
  pub greater : (c == 62) ≡ false
  pub less : (c == 60) ≡ false

neither : (v x y : Bool) → x ≡ false → y ≡ false → cond v x y ≡ false
neither true x y e f = e
neither false x y e f = f

nor : (x y : Bool) → x ≡ false → y ≡ false → (x || y) ≡ false
nor true y e f = absurd cc
nor false y e f = f

no_pair : (b c : ℕ) → IsAlone c → is_pair b c ≡ false
no_pair b c h =
    neither (b == 58) _ _ (nor (c == 61) (c == 58) h.equals h.colon)
    (neither (b == 124) _ _ h.bar
    (neither (b == 47) _ _ h.back
    (neither (b == 92) _ _ h.slash
    (neither (b == 45) _ _ h.greater
    (neither (b == 33) _ _ h.equals
    (neither (b == 60) _ _ (nor (c == 61) (c == 60) h.equals h.less)
    (neither (b == 62) _ _ (nor (c == 61) (c == 62) h.equals h.greater) refl)))))))

last_of : (x y z : Bool) → z ≡ false → (x && y && z) ≡ false
last_of true true z e = e
last_of true false z e = refl
last_of false y z e = refl

middle_of : (x y z : Bool) → y ≡ false → (x && y && z) ≡ false
middle_of true true z e = absurd cc
middle_of true false z e = refl
middle_of false y z e = refl

no_arrow_behind : (b c d : ℕ) → IsAlone d → is_arrow b c d ≡ false
no_arrow_behind b c d h = last_of (b == 61) (c == 61) (d == 62) h.greater

no_arrow_between : (b c d : ℕ) → IsAlone c → is_arrow b c d ≡ false
no_arrow_between b c d h = middle_of (b == 61) (c == 61) (d == 62) h.equals

feed_alone : IsAlone 10
feed_alone = record { equals = refl; colon = refl; bar = refl; back = refl; slash = refl; greater = refl; less = refl }

single : (b c : ℕ) (us : List ℕ) → IsAlone c → symbol_len (b ∷ c ∷ us) ≡ short_len b false
single b c [] h = rw (no_pair b c h) refl
single b c (u ∷ us) h = rw (no_arrow_between b c u h, no_pair b c h) refl

symbol_keeps : (b c : ℕ) (xs us : List ℕ) → IsAlone c → symbol_len (b ∷ xs ++ c ∷ us) ≡ symbol_len (b ∷ xs ++ 10 ∷ [])
symbol_keeps b c [] us h = single b c us h ∙ sym (single b 10 [] feed_alone)
symbol_keeps b c (x ∷ []) us h = rw (no_arrow_behind b x c h, no_arrow_behind b x 10 feed_alone) refl
symbol_keeps b c (x ∷ y ∷ xs) us h = refl

prefix_step : (v : Bool) (m n k whole : ℕ) → whole ≡ 1 + k → (m ≡ k → n ≡ k) → cond v (1 + m) 0 ≡ whole → cond v (1 + n) 0 ≡ whole
prefix_step true m n k whole is again h = let e : n ≡ k = again (omega arith) in omega (arith, e)
prefix_step false m n k whole is again h = absurd (omega arith)

prefix_none : (v : Bool) (n : ℕ) → v ≡ false → cond v n 0 ≡ 0
prefix_none true n e = absurd cc
prefix_none false n e = refl

prefix_keeps : (p : ℕ → Bool) (c d : ℕ) (xs us vs : List ℕ) → p c ≡ false → prefix_len p (xs ++ d ∷ vs) ≡ length xs → prefix_len p (xs ++ c ∷ us) ≡ length xs
prefix_keeps p c d [] us vs e h = prefix_none (p c) (1 + prefix_len p us) e
prefix_keeps p c d (x ∷ xs) us vs e h = prefix_step (p x) (prefix_len p (xs ++ d ∷ vs)) (prefix_len p (xs ++ c ∷ us)) (length xs) (length (x ∷ xs)) (omega arith) (prefix_keeps p c d xs us vs e) h

-- a choice is the same where what is chosen is
step : (v : Bool) (x y z w f : Front) → cond v z w ≡ f → (z ≡ f → x ≡ f) → (w ≡ f → y ≡ f) → cond v x y ≡ f
step true x y z w f h g k = g h
step false x y z w f h g k = k h

widths : (j k : TokenKind) (n m : ℕ) → Whole j n ≡ Whole k m → n ≡ m
widths j k n m h = cc

numeral_width : (v : Bool) (k : TokenKind) (n m : ℕ) → cond v Long (Whole Numeral n) ≡ Whole k m → n ≡ m
numeral_width true k n m h = absurd cc
numeral_width false k n m h = cc

pub symbol_kind : (v : Bool) (k : TokenKind) (n m : ℕ) → cond v Bad (Whole Symbol n) ≡ Whole k m → k ≡ Symbol
symbol_kind true k n m h = absurd cc
symbol_kind false k n m h = cc

module _ (kind : TokenKind) (b c : ℕ) (xs us : List ℕ) where
  same_bytes : take (1 + length xs) (b ∷ xs ++ c ∷ us) ≡ take (1 + length xs) (b ∷ xs ++ 10 ∷ [])
  same_bytes = take-append-le (1 + length xs) (b ∷ xs) (c ∷ us) (omega arith) ∙ sym (take-append-le (1 + length xs) (b ∷ xs) (10 ∷ []) (omega arith))

  abbrev word_of : ℕ → List ℕ → Front
  word_of n bs = Whole (word_kind (take (1 + n) bs)) (1 + n)

  abbrev numeral_of : ℕ → List ℕ → Front
  numeral_of n bs = numeral (take (1 + n) bs) (1 + n)

  word_keeps : is_word_byte c ≡ false → word_of (prefix_len is_word_byte (xs ++ 10 ∷ [])) (b ∷ xs ++ 10 ∷ []) ≡ Whole kind (1 + length xs)
      → word_of (prefix_len is_word_byte (xs ++ c ∷ us)) (b ∷ xs ++ c ∷ us) ≡ Whole kind (1 + length xs)
  word_keeps e h =
      let w = widths _ _ _ _ h in
      let n : prefix_len is_word_byte (xs ++ 10 ∷ []) ≡ length xs = omega (arith, w) in
      let m : prefix_len is_word_byte (xs ++ c ∷ us) ≡ length xs = prefix_keeps is_word_byte c 10 xs us [] e n in
      ap (λ i. word_of i (b ∷ xs ++ c ∷ us)) m
      ∙ ap (λ s. Whole (word_kind s) (1 + length xs)) same_bytes
      ∙ sym (ap (λ i. word_of i (b ∷ xs ++ 10 ∷ [])) n) ∙ h

  numeral_keeps : is_digit c ≡ false → numeral_of (prefix_len is_digit (xs ++ 10 ∷ [])) (b ∷ xs ++ 10 ∷ []) ≡ Whole kind (1 + length xs)
      → numeral_of (prefix_len is_digit (xs ++ c ∷ us)) (b ∷ xs ++ c ∷ us) ≡ Whole kind (1 + length xs)
  numeral_keeps e h =
      let w = numeral_width (nat_lt (2 ^ 30) (value_of (take (1 + prefix_len is_digit (xs ++ 10 ∷ [])) (b ∷ xs ++ 10 ∷ [])))) _ _ _ h in
      let n : prefix_len is_digit (xs ++ 10 ∷ []) ≡ length xs = omega (arith, w) in
      let m : prefix_len is_digit (xs ++ c ∷ us) ≡ length xs = prefix_keeps is_digit c 10 xs us [] e n in
      ap (λ i. numeral_of i (b ∷ xs ++ c ∷ us)) m
      ∙ ap (λ s. numeral s (1 + length xs)) same_bytes
      ∙ sym (ap (λ i. numeral_of i (b ∷ xs ++ 10 ∷ [])) n) ∙ h

  sign_keeps : (kind ≡ Symbol → IsAlone c) → symbol (symbol_len (b ∷ xs ++ 10 ∷ [])) ≡ Whole kind (1 + length xs) → symbol (symbol_len (b ∷ xs ++ c ∷ us)) ≡ Whole kind (1 + length xs)
  sign_keeps alone h =
      let is : kind ≡ Symbol = symbol_kind (symbol_len (b ∷ xs ++ 10 ∷ []) == 0) _ _ _ h in
      ap symbol (symbol_keeps b c xs us (alone is)) ∙ h

  -- a token is read as it is in front of a byte that goes on with no word, and with no symbol if it is one
  pub token_keeps : is_word_byte c ≡ false → is_digit c ≡ false → (kind ≡ Symbol → IsAlone c) → front_at b (xs ++ 10 ∷ []) ≡ Whole kind (1 + length xs) → front_at b (xs ++ c ∷ us) ≡ Whole kind (1 + length xs)
  token_keeps no_word no_digit alone h =
      step (is_blank b) _ _ _ _ _ h (λ g. g)
      (λ g. step (b == 37) _ _ _ _ _ g (λ k. absurd cc)
      (λ g. step (is_letter b) _ _ _ _ _ g (word_keeps no_word)
      (λ g. step (is_digit b) _ _ _ _ _ g (numeral_keeps no_digit) (sign_keeps alone))))
