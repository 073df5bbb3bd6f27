-- What stands at the front of a text is told by its own bytes, and by a line feed behind them.
use Rattle.std.proofs.Common.{◌≡◌, ℕ, ◌+◌, ◌≤◌, ◌<◌, ◌^◌, nat_lt, Bool, true, false, cond, ◌&&◌, ◌==◌, List, [], ◌∷◌, ◌++◌, take, length, refl, sym, ap, ◌∙◌, arith}
use Rattle.std.specs.List.{prefix_len}
use Rattle.std.proofs.lemmas.Bool.Decides.{nat_tests}
use Rattle.std.proofs.lemmas.List.{take-append-le}
use Rattle.std.proofs.lemmas.List.Sums.{prefix_len-le-length}
use Rattle.st_tokens.specs.declared.kind.TokenKind.TheVariants.{Numeral, Symbol}
use Rattle.st_tokens.specs.declared.kind.Front.{Front}
use Rattle.st_tokens.specs.declared.kind.Front.TheVariants.{Blank, Whole, Bad, Long}
use Rattle.st_tokens.specs.Text.{is_letter, is_digit, is_blank, is_word_byte, is_line_byte, is_pair, is_single, is_arrow, short_len, symbol_len, value_of, word_kind, numeral, symbol, front_at, IsWithin}

-- how many bytes it has
abbrev pub width : Front → ℕ
width (Blank n) = n
width (Whole kind n) = n
width Bad = 0
width Long = 0

prefix_step : (p : ℕ → Bool) (x : ℕ) (us ys : List ℕ) (m : ℕ) → (prefix_len p ys ≤ m → prefix_len p us ≡ prefix_len p ys) → (b : Bool) → b ≡ p x → prefix_len p (x ∷ ys) ≤ 1 + m → prefix_len p (x ∷ us) ≡ prefix_len p (x ∷ ys)
prefix_step p x us ys m again false e h = rw (← e) refl
prefix_step p x us ys m again true e h =
    let g : 1 + prefix_len p ys ≤ 1 + m = rw (← e) at h in
    rw (← e) (ap (λ n. 1 + n) (again (omega arith)))

prefix_cut : (p : ℕ → Bool) → p 10 ≡ false → (xs ys us : List ℕ) → prefix_len p (xs ++ ys) ≤ length xs → prefix_len p (xs ++ 10 ∷ us) ≡ prefix_len p (xs ++ ys)
prefix_cut p ends [] ys us h = rw ends (omega arith)
prefix_cut p ends (x ∷ xs) ys us h = prefix_step p x (xs ++ 10 ∷ us) (xs ++ ys) (length xs) (λ le. prefix_cut p ends xs ys us le) (p x) refl (omega arith)

no_pair : (b : ℕ) → is_pair b 10 ≡ false
no_pair b =
    elim (b == 58) as (λ v. cond v false (cond (b == 124) false (cond (b == 47) false (cond (b == 92) false (cond (b == 45) false (cond (b == 33) false (cond (b == 60) false (cond (b == 62) false false))))))) ≡ false) [
      | true ↦ refl
      | false ↦
          elim (b == 124) as (λ v. cond v false (cond (b == 47) false (cond (b == 92) false (cond (b == 45) false (cond (b == 33) false (cond (b == 60) false (cond (b == 62) false false)))))) ≡ false) [
            | true ↦ refl
            | false ↦
                elim (b == 47) as (λ v. cond v false (cond (b == 92) false (cond (b == 45) false (cond (b == 33) false (cond (b == 60) false (cond (b == 62) false false))))) ≡ false) [
                  | true ↦ refl
                  | false ↦
                      elim (b == 92) as (λ v. cond v false (cond (b == 45) false (cond (b == 33) false (cond (b == 60) false (cond (b == 62) false false)))) ≡ false) [
                        | true ↦ refl
                        | false ↦
                            elim (b == 45) as (λ v. cond v false (cond (b == 33) false (cond (b == 60) false (cond (b == 62) false false))) ≡ false) [
                              | true ↦ refl
                              | false ↦
                                  elim (b == 33) as (λ v. cond v false (cond (b == 60) false (cond (b == 62) false false)) ≡ false) [
                                    | true ↦ refl
                                    | false ↦
                                        elim (b == 60) as (λ v. cond v false (cond (b == 62) false false) ≡ false) [
                                          | true ↦ refl
                                          | false ↦
                                              elim (b == 62) as (λ v. cond v false false ≡ false) [ true ↦ refl | false ↦ refl ]
                                        ]
                                  ]
                            ]
                      ]
                ]
          ]
    ]

test_and : (a b : Bool) → a && (b && false) ≡ false
test_and true true = refl
test_and true false = refl
test_and false b = refl

test_and_first : (a b : Bool) → a && (false && b) ≡ false
test_and_first true b = refl
test_and_first false b = refl

no_arrow_behind : (b c : ℕ) → is_arrow b c 10 ≡ false
no_arrow_behind b c = grind arith

no_arrow_between : (b d : ℕ) → is_arrow b 10 d ≡ false
no_arrow_between b d = grind arith

-- a choice has what both choices have
either : {A : Type 0} (P : A → Type 0) (v : Bool) (x y : A) → P x → P y → P (cond v x y)
either P true x y a b = a
either P false x y a b = b

-- two choices are one where the chosen are
both_ways : {A : Type 0} (P : A → Type 0) (v : Bool) (x y z w : A) → P (cond v z w) → (P z → x ≡ z) → (P w → y ≡ w) → cond v x y ≡ cond v z w
both_ways P true x y z w h f g = f h
both_ways P false x y z w h f g = g h

short_single : (b : ℕ) (v : Bool) → short_len b v ≤ 1 → v ≡ false
short_single b true h = absurd (omega arith)
short_single b false h = refl

short_within : (b : ℕ) (v : Bool) → short_len b v ≤ 2
short_within b true = omega arith
short_within b false = either (λ n. n ≤ 2) (is_single b) 1 0 (omega arith) (omega arith)

symbol_within : (b : ℕ) (bs : List ℕ) → symbol_len (b ∷ bs) ≤ 1 + length bs
symbol_within b [] = either (λ n. n ≤ 1 + length {A = ℕ} []) (is_single b) 1 0 (omega arith) (omega arith)
symbol_within b (c ∷ []) = omega (arith, short_within b (is_pair b c))
symbol_within b (c ∷ d ∷ ds) = either (λ n. n ≤ 1 + length (c ∷ d ∷ ds)) (is_arrow b c d) 3 (short_len b (is_pair b c)) (omega arith) (omega (arith, short_within b (is_pair b c)))

-- no arrow begins there
not_three : (v : Bool) (n m : ℕ) → cond v 3 n ≤ m → m ≤ 2 → v ≡ false
not_three true n m h le = absurd (omega arith)
not_three false n m h le = refl

alone : (b : ℕ) (us : List ℕ) → symbol_len (b ∷ 10 ∷ us) ≡ short_len b false
alone b [] = rw (no_pair b) refl
alone b (u ∷ us) = rw (no_arrow_between b u, no_pair b) refl

symbol_cut : (b : ℕ) (xs ys us : List ℕ) → symbol_len (b ∷ xs ++ ys) ≤ 1 + length xs → symbol_len (b ∷ xs ++ 10 ∷ us) ≡ symbol_len (b ∷ xs ++ ys)
symbol_cut b [] [] us h = alone b us
symbol_cut b [] (c ∷ []) us h = alone b us ∙ ap (short_len b) (sym (short_single b (is_pair b c) (omega arith)))
symbol_cut b [] (c ∷ d ∷ ds) us h =
    let arrow : is_arrow b c d ≡ false = not_three (is_arrow b c d) (short_len b (is_pair b c)) 1 (omega arith) (omega arith) in
    let short : short_len b (is_pair b c) ≤ 1 = let g = rw arrow at h in omega (arith, g) in
    alone b us ∙ rw arrow (ap (short_len b) (sym (short_single b (is_pair b c) short)))
symbol_cut b (c ∷ []) [] us h = rw (no_arrow_behind b c) refl
symbol_cut b (c ∷ []) (d ∷ ds) us h =
    let arrow : is_arrow b c d ≡ false = not_three (is_arrow b c d) (short_len b (is_pair b c)) 2 (omega arith) (omega arith) in
    rw (no_arrow_behind b c, arrow) refl
symbol_cut b (c ∷ d ∷ xs) ys us h = refl

symbol_tested : (v : Bool) (n m : ℕ) → v ≡ (n == 0) → n ≤ m → IsWithin (cond v Bad (Whole Symbol n)) m
symbol_tested true n m e h = tt
symbol_tested false n m e h = let some : 0 < n = grind (arith, nat_tests) in (some, h)

symbol_proper : (n m : ℕ) → n ≤ m → IsWithin (symbol n) m
symbol_proper n m h = symbol_tested (n == 0) n m refl h

numeral_proper : (s : List ℕ) (n m : ℕ) → 0 < n → n ≤ m → IsWithin (numeral s n) m
numeral_proper s n m some h = either (λ f. IsWithin f m) (nat_lt (2 ^ 30) (value_of s)) Long (Whole Numeral n) tt (some, h)

-- what stands there has some of the bytes
pub front_proper : (b : ℕ) (bs : List ℕ) → IsWithin (front_at b bs) (1 + length bs)
front_proper b bs =
    let P : Front → Type 0 = λ f. IsWithin f (1 + length bs) in
    either P (is_blank b) (Blank 1) _ (omega arith, omega arith)
    (either P (b == 37) (Blank (1 + prefix_len is_line_byte bs)) _ (omega arith, omega (arith, prefix_len-le-length is_line_byte bs))
    (either P (is_letter b) (Whole (word_kind (take (1 + prefix_len is_word_byte bs) (b ∷ bs))) (1 + prefix_len is_word_byte bs)) _ (omega arith, omega (arith, prefix_len-le-length is_word_byte bs))
    (either P (is_digit b) (numeral (take (1 + prefix_len is_digit bs) (b ∷ bs)) (1 + prefix_len is_digit bs)) (symbol (symbol_len (b ∷ bs)))
    (numeral_proper (take (1 + prefix_len is_digit bs) (b ∷ bs)) (1 + prefix_len is_digit bs) (1 + length bs) (omega arith) (omega (arith, prefix_len-le-length is_digit bs)))
    (symbol_proper (symbol_len (b ∷ bs)) (1 + length bs) (symbol_within b bs)))))

-- something of at most m bytes stands there
pub record IsFront (m : ℕ) (f : Front) : Type 0 where
  pub within : width f ≤ m
  pub some : 0 < width f

-- the first bytes are the same
take_cut : (b n : ℕ) (xs ys us : List ℕ) → n ≤ length xs → take (1 + n) (b ∷ xs ++ 10 ∷ us) ≡ take (1 + n) (b ∷ xs ++ ys)
take_cut b n xs ys us h = take-append-le (1 + n) (b ∷ xs) (10 ∷ us) (omega arith) ∙ sym (take-append-le (1 + n) (b ∷ xs) ys (omega arith))

numeral_whole : (v : Bool) (n m : ℕ) → 0 < width (cond v Long (Whole Numeral n)) → width (cond v Long (Whole Numeral n)) ≤ m → n ≤ m
numeral_whole true n m some h = absurd (omega arith)
numeral_whole false n m some h = h

symbol_whole : (v : Bool) (n m : ℕ) → 0 < width (cond v Bad (Whole Symbol n)) → width (cond v Bad (Whole Symbol n)) ≤ m → n ≤ m
symbol_whole true n m some h = absurd (omega arith)
symbol_whole false n m some h = h

module _ (b : ℕ) (xs ys us : List ℕ) where
  line_cut : IsFront (1 + length xs) (Blank (1 + prefix_len is_line_byte (xs ++ ys))) → Blank (1 + prefix_len is_line_byte (xs ++ 10 ∷ us)) ≡ Blank (1 + prefix_len is_line_byte (xs ++ ys))
  line_cut h = let le = h.within in ap (λ n. Blank (1 + n)) (prefix_cut is_line_byte refl xs ys us (omega arith))

  word_cut : IsFront (1 + length xs) (Whole (word_kind (take (1 + prefix_len is_word_byte (xs ++ ys)) (b ∷ xs ++ ys))) (1 + prefix_len is_word_byte (xs ++ ys)))
      → Whole (word_kind (take (1 + prefix_len is_word_byte (xs ++ 10 ∷ us)) (b ∷ xs ++ 10 ∷ us))) (1 + prefix_len is_word_byte (xs ++ 10 ∷ us)) ≡ Whole (word_kind (take (1 + prefix_len is_word_byte (xs ++ ys)) (b ∷ xs ++ ys))) (1 + prefix_len is_word_byte (xs ++ ys))
  word_cut h =
      let le : prefix_len is_word_byte (xs ++ ys) ≤ length xs = let g = h.within in omega (arith, g) in
      ap (λ n. Whole (word_kind (take (1 + n) (b ∷ xs ++ 10 ∷ us))) (1 + n)) (prefix_cut is_word_byte refl xs ys us le)
      ∙ ap (λ s. Whole (word_kind s) (1 + prefix_len is_word_byte (xs ++ ys))) (take_cut b (prefix_len is_word_byte (xs ++ ys)) xs ys us le)

  numeral_cut : IsFront (1 + length xs) (numeral (take (1 + prefix_len is_digit (xs ++ ys)) (b ∷ xs ++ ys)) (1 + prefix_len is_digit (xs ++ ys)))
      → numeral (take (1 + prefix_len is_digit (xs ++ 10 ∷ us)) (b ∷ xs ++ 10 ∷ us)) (1 + prefix_len is_digit (xs ++ 10 ∷ us)) ≡ numeral (take (1 + prefix_len is_digit (xs ++ ys)) (b ∷ xs ++ ys)) (1 + prefix_len is_digit (xs ++ ys))
  numeral_cut h =
      let whole : 1 + prefix_len is_digit (xs ++ ys) ≤ 1 + length xs = numeral_whole (nat_lt (2 ^ 30) (value_of (take (1 + prefix_len is_digit (xs ++ ys)) (b ∷ xs ++ ys)))) (1 + prefix_len is_digit (xs ++ ys)) (1 + length xs) h.some h.within in
      let le : prefix_len is_digit (xs ++ ys) ≤ length xs = omega arith in
      ap (λ n. numeral (take (1 + n) (b ∷ xs ++ 10 ∷ us)) (1 + n)) (prefix_cut is_digit refl xs ys us le)
      ∙ ap (λ s. numeral s (1 + prefix_len is_digit (xs ++ ys))) (take_cut b (prefix_len is_digit (xs ++ ys)) xs ys us le)

  signs_cut : IsFront (1 + length xs) (symbol (symbol_len (b ∷ xs ++ ys))) → symbol (symbol_len (b ∷ xs ++ 10 ∷ us)) ≡ symbol (symbol_len (b ∷ xs ++ ys))
  signs_cut h =
      let le : symbol_len (b ∷ xs ++ ys) ≤ 1 + length xs = symbol_whole (symbol_len (b ∷ xs ++ ys) == 0) (symbol_len (b ∷ xs ++ ys)) (1 + length xs) h.some h.within in
      ap symbol (symbol_cut b xs ys us le)

  -- what stands in front of a place stands there too where a line feed comes at that place
  pub front_cut : IsFront (1 + length xs) (front_at b (xs ++ ys)) → front_at b (xs ++ 10 ∷ us) ≡ front_at b (xs ++ ys)
  front_cut h =
      let P : Front → Type 0 = IsFront (1 + length xs) in
      both_ways P (is_blank b) (Blank 1) _ (Blank 1) _ h (λ g. refl)
      (λ g. both_ways P (b == 37) _ _ _ _ g line_cut
      (λ g. both_ways P (is_letter b) _ _ _ _ g word_cut
      (λ g. both_ways P (is_digit b) _ _ _ _ g numeral_cut signs_cut)))
