-- The text that is written of a tree spells a tree of that meaning: the one with no minus before a zero.
use Rattle.std.proofs.Common.{◌≡◌, ℕ, zero, suc, ◌+◌, ◌-◌, ◌*◌, ◌/◌, ◌%◌, ◌^◌, ◌<◌, ◌≤◌, Bool, true, false, cond, ◌||◌, List, [], ◌∷◌, ◌++◌, map, refl, sym, ap, ◌∙◌, subst, arith, nat_le, codes, append_assoc, inl, inr, ℤ}
use Rattle.std.proofs.lemmas.Bool.Decides.{nat_tests}
use Rattle.std.proofs.lemmas.Bool.{cases_lt}
use Rattle.std.proofs.Math.Nat.{pow-suc}
use Rattle.cert_text.specs.declared.scan.Word.{Word}
use Rattle.cert_text.specs.declared.scan.Word.TheVariants as words
use Rattle.cert_text.specs.declared.scan.Branching.{Branching}
use Rattle.cert_text.specs.declared.scan.Branching.TheVariants as nodes
use Rattle.cert_text.specs.declared.scan.Token.{Token}
use Rattle.cert_text.specs.declared.scan.Token.TheVariants as tokens
use Rattle.cert_text.specs.Letters.{is_digit}
use Rattle.st_certificate.specs.Tree.{Tree, Trees, no_tree, with_tree, branch, by_cut, linear}
use Rattle.cert_text.specs.Tree.{branching_of, signed_of}
use Rattle.cert_text.specs.Grammar.{Int, int_value, int_tokens, entry_of, Written, w_absurd, w_farkas, w_linear, w_node, w_cut, Rows, w_last, w_and, pick_tokens, picks_tokens, line_tokens, lines_tokens, term_tokens, more_terms, terms_tokens, tree_tokens, rows_tokens, meaning, meanings, IsProper, AreProper, AreTerms, IsBlock, tree_count, row_count, none_left, terms_over, is_long, is_long_entry, is_long_pick, picks_over, lines_over, tree_over, rows_over, word_of_node, block_tokens}
use Rattle.cert_text.specs.Spelling.{digits_in, decimal, int_text, pick_text, more_picks_text, picks_text, line_text, more_lines_text, lines_text, term_text, more_terms_text, terms_text, tree_text, trees_text, block_text}
use Rattle.cert_text.proofs.Digits.{digits_short, digits_more}
use Rattle.cert_laws.specs.Spelled.{letters_of, AreAll, IsSpelling, EndsAt, Spells, IsSign, value_behind}

-- the digits of a number

value_last : (m d : ℕ) (ds : List ℕ) → value_behind m (ds ++ d ∷ []) ≡ value_behind m ds * 10 + (d - 48)
value_last m d [] = refl
value_last m d (e ∷ ds) = value_last (m * 10 + (e - 48)) d ds

pub all_more : (test : ℕ → Bool) (bs : List ℕ) (b : ℕ) → AreAll test bs → test b ≡ true → AreAll test (bs ++ b ∷ [])
all_more test [] b h k = (k, tt)
all_more test (c ∷ bs) b h k = (h.0, all_more test bs b h.1 k)

digit_is : (n : ℕ) → is_digit (48 + n % 10) ≡ true
digit_is n = grind (arith, nat_tests)

-- digits, one or more, of a number
abbrev AreOf : ℕ → List ℕ → Type 0
AreOf n ds = IsSpelling ds (tokens.Number n)

one_digit : (n : ℕ) → n < 10 → AreOf n ((48 + n % 10) ∷ [])
one_digit n h = (48 + n % 10, [], refl, (digit_is n, tt), omega arith)

more_digits : (n : ℕ) (ds : List ℕ) → AreOf (n / 10) ds → AreOf n (ds ++ (48 + n % 10) ∷ [])
more_digits n ds h =
    let last = 48 + n % 10 in (
      h.0,
      h.1 ++ last ∷ [],
      ap (λ xs. xs ++ last ∷ []) h.2,
      all_more is_digit (h.0 ∷ h.1) last h.3 (digit_is n),
      value_last 0 last (h.0 ∷ h.1) ∙ ap (λ m. m * 10 + (last - 48)) h.4 ∙ omega arith,
    )

tenth : (left n : ℕ) → n < 10 ^ (suc left + 1) → n / 10 < 10 ^ (left + 1)
tenth left n b =
    let e : suc left + 1 ≡ suc (left + 1) = omega arith in
    let p : 10 ^ (suc left + 1) ≡ 10 ^ (left + 1) * 10 = ap (λ m. 10 ^ m) e ∙ pow-suc 10 (left + 1) in
    omega (arith, p)

pub digits_are : (left n : ℕ) → n < 10 ^ (left + 1) → AreOf n (digits_in left n)
unfolding digits_in
digits_are zero n b = one_digit n (ten n b) where
  ten : (m : ℕ) → m < 10 ^ (0 + 1) → m < 10
  ten m c = c
digits_are (suc left) n b = elim (cases_lt n 10) [
  | inl few ↦ subst (AreOf n) (sym (digits_short (suc left) n few)) (one_digit n few)
  | inr more ↦ subst (AreOf n) (sym (split more)) (more_digits n (digits_in left (n / 10)) (digits_are left (n / 10) (tenth left n b)))
] where
  split : 10 ≤ n → digits_in (suc left) n ≡ digits_in left (n / 10) ++ (48 + n % 10) ∷ []
  split more = digits_more (suc left) n (omega arith) more ∙ ap (λ m. digits_in m (n / 10) ++ (48 + n % 10) ∷ []) (let one : suc left - 1 ≡ left = omega arith in one)

decimal_is : (n : ℕ) → n < 2 ^ 64 → AreOf n (decimal n)
unfolding decimal
decimal_is n h = digits_are 39 n (wide n h) where
  wide : (m : ℕ) → m < 2 ^ 64 → m < 10 ^ (39 + 1)
  wide m k = omega (arith, k)

-- tokens in front

pub respelled : (ts : List Token) (bs cs : List ℕ) → bs ≡ cs → Spells cs ts → Spells bs ts
respelled ts bs cs e h = subst (λ xs. Spells xs ts) (sym e) h

pub ends_sign : (c : ℕ) (rest : List ℕ) → EndsAt (tokens.Sign c) rest
ends_sign c [] = tt
ends_sign c (b ∷ bs) = tt

sign : (c : ℕ) (rest : List ℕ) (k : List Token) → IsSign c → Spells rest k → Spells (c ∷ rest) (tokens.Sign c ∷ k)
sign c rest k s h = ([], c ∷ [], rest, refl, tt, (refl, s), ends_sign c rest, h)

word : (w : Word) (rest : List ℕ) (k : List Token) → EndsAt (tokens.Word w) rest → Spells rest k → Spells (letters_of w ++ rest) (tokens.Word w ∷ k)
word w rest k e h = ([], letters_of w, rest, refl, tt, refl, e, h)

number : (n : ℕ) (rest : List ℕ) (k : List Token) → n < 2 ^ 64 → EndsAt (tokens.Number n) rest → Spells rest k → Spells (decimal n ++ rest) (tokens.Number n ∷ k)
number n rest k s e h = ([], decimal n, rest, refl, tt, decimal_is n s, e, h)

pub blank : (t : Token) (rest : List ℕ) (k : List Token) → Spells rest (t ∷ k) → Spells (32 ∷ rest) (t ∷ k)
blank t rest k h = (32 ∷ h.0, h.1, h.2, ap (λ xs. 32 ∷ xs) h.3, (refl, h.4), h.5, h.6, h.7)

blank_tree : (w : Written) (rest : List ℕ) (k : List Token) → Spells rest (tree_tokens w k) → Spells (32 ∷ rest) (tree_tokens w k)
blank_tree w_absurd rest k h = blank (tokens.Word words.Absurd) rest k h
blank_tree (w_farkas p ps) rest k h = blank (tokens.Word words.Farkas) rest (tokens.Sign 91 ∷ pick_tokens p (picks_tokens ps (tokens.Sign 93 ∷ k))) h
blank_tree (w_linear p ps) rest k h = blank (tokens.Word words.Linear) rest (tokens.Sign 91 ∷ line_tokens p (lines_tokens ps (tokens.Sign 93 ∷ k))) h
blank_tree (w_node b n ws) rest k h = blank (tokens.Word (word_of_node b)) rest (tokens.Number (n + 1) ∷ tokens.Sign 123 ∷ rows_tokens ws (tokens.Sign 125 ∷ k)) h
blank_tree (w_cut ts c ws) rest k h = blank (tokens.Word words.Cut) rest (tokens.Sign 91 ∷ terms_tokens ts (tokens.Sign 59 ∷ int_tokens c (tokens.Sign 93 ∷ tokens.Sign 123 ∷ rows_tokens ws (tokens.Sign 125 ∷ k)))) h

blank_rows : (ws : Rows) (rest : List ℕ) (k : List Token) → Spells rest (rows_tokens ws k) → Spells (32 ∷ rest) (rows_tokens ws k)
blank_rows (w_last w) rest k h = blank_tree w rest k h
blank_rows (w_and w ws) rest k h = blank_tree w rest (rows_tokens ws k) h

-- no minus before a zero
abbrev sign_kept : Bool → ℕ → Bool
sign_kept negative zero = false
sign_kept negative (suc n) = negative

abbrev kept_int : Int → Int
kept_int i = (sign_kept i.0 i.1, i.1)

abbrev kept_line : ℕ × Int → ℕ × Int
kept_line p = (p.0, kept_int p.1)

abbrev mutual
  pub kept : Written → Written
  kept w_absurd = w_absurd
  kept (w_farkas p ps) = w_farkas p ps
  kept (w_linear p ps) = w_linear (kept_line p) (map kept_line ps)
  kept (w_node b n ws) = w_node b n (kept_rows ws)
  kept (w_cut ts c ws) = w_cut (map kept_line ts) (kept_int c) (kept_rows ws)

  pub kept_rows : Rows → Rows
  kept_rows (w_last w) = w_last (kept w)
  kept_rows (w_and w ws) = w_and (kept w) (kept_rows ws)

same_int : (negative : Bool) (n : ℕ) → signed_of (sign_kept negative n) n ≡ signed_of negative n
same_int true zero = refl
same_int false zero = refl
same_int negative (suc n) = refl

same_lines : (ps : List (ℕ × Int)) → map entry_of (map kept_line ps) ≡ map entry_of ps
same_lines [] = refl
same_lines (p ∷ ps) = ap (λ z. (p.0, z) ∷ map entry_of (map kept_line ps)) (same_int p.1.0 p.1.1) ∙ ap (λ es. entry_of p ∷ es) (same_lines ps)

mutual
  pub same_meaning : (w : Written) → meaning (kept w) ≡ meaning w
  same_meaning w_absurd = refl
  same_meaning (w_farkas p ps) = refl
  same_meaning (w_linear p ps) = ap linear (same_lines (p ∷ ps))
  same_meaning (w_node b n ws) = ap (branching_of b n) (same_meanings ws)
  same_meaning (w_cut ts c ws) =
      ap (λ z. branch (by_cut (record { constant = z; entries = map entry_of (map kept_line ts) })) (meanings (kept_rows ws))) (same_int c.0 c.1)
      ∙ ap (λ es. branch (by_cut (record { constant = int_value c; entries = es })) (meanings (kept_rows ws))) (same_lines ts)
      ∙ ap (branch (by_cut (record { constant = int_value c; entries = map entry_of ts }))) (same_meanings ws)

  same_meanings : (ws : Rows) → meanings (kept_rows ws) ≡ meanings ws
  same_meanings (w_last w) = ap (λ t. with_tree t no_tree) (same_meaning w)
  same_meanings (w_and w ws) = ap (λ t. with_tree t (meanings (kept_rows ws))) (same_meaning w) ∙ ap (with_tree (meaning w)) (same_meanings ws)

kept_terms : (low : ℕ) (ts : List (ℕ × Int)) → AreTerms low ts → AreTerms low (map kept_line ts)
kept_terms low [] h = tt
kept_terms low (t ∷ ts) h = (h.0, h.1, kept_terms (t.0 + 1) ts h.2)

mutual
  pub kept_proper : (second : Bool) (w : Written) → IsProper second w → IsProper second (kept w)
  kept_proper second w_absurd h = tt
  kept_proper second (w_farkas p ps) h = tt
  kept_proper second (w_linear p ps) h = h
  kept_proper second (w_node b n ws) h = kept_all second ws h
  kept_proper second (w_cut ts c ws) h = (kept_terms 0 ts h.0, kept_all second ws h.1)

  kept_all : (second : Bool) (ws : Rows) → AreProper second ws → AreProper second (kept_rows ws)
  kept_all second (w_last w) h = kept_proper second w h
  kept_all second (w_and w ws) h = (kept_proper second w h.0, kept_all second ws h.1)

kept_lines_over : (count : ℕ) (ps : List (ℕ × Int)) → lines_over count (map kept_line ps) ≡ lines_over count ps
kept_lines_over count [] = refl
kept_lines_over count (p ∷ ps) = ap (λ o. is_long_pick count p.0 p.1.1 || o) (kept_lines_over (count + 1) ps)

kept_terms_over : (ts : List (ℕ × Int)) → terms_over (map kept_line ts) ≡ terms_over ts
kept_terms_over [] = refl
kept_terms_over (t ∷ ts) = ap (λ o. (is_long_entry t.1.1 || is_long (t.0 + 1)) || o) (kept_terms_over ts)

mutual
  kept_count : (w : Written) → tree_count (kept w) ≡ tree_count w
  kept_count w_absurd = refl
  kept_count (w_farkas p ps) = refl
  kept_count (w_linear p ps) = refl
  kept_count (w_node b n ws) = ap (λ m. 1 + m) (kept_row_count ws)
  kept_count (w_cut ts c ws) = ap (λ m. 1 + m) (kept_row_count ws)

  kept_row_count : (ws : Rows) → row_count (kept_rows ws) ≡ row_count ws
  kept_row_count (w_last w) = kept_count w
  kept_row_count (w_and w ws) = ap (λ m. m + row_count (kept_rows ws)) (kept_count w) ∙ ap (λ m. tree_count w + m) (kept_row_count ws)

mutual
  pub kept_over : (trees depth : ℕ) (w : Written) → tree_over trees depth (kept w) ≡ tree_over trees depth w
  kept_over trees depth w_absurd = refl
  kept_over trees depth (w_farkas p ps) = refl
  kept_over trees depth (w_linear p ps) = ap (λ o. none_left trees depth || o) (kept_lines_over 0 (p ∷ ps))
  kept_over trees depth (w_node b n ws) = ap (λ o. none_left trees depth || (is_long (n + 1) || o)) (kept_rows_over (trees + 1) (depth + 1) ws)
  kept_over trees depth (w_cut ts c ws) =
      ap (λ o. none_left trees depth || (o || (is_long_entry c.1 || rows_over (trees + 1) (depth + 1) (kept_rows ws)))) (kept_terms_over ts)
      ∙ ap (λ o. none_left trees depth || (terms_over ts || (is_long_entry c.1 || o))) (kept_rows_over (trees + 1) (depth + 1) ws)

  kept_rows_over : (trees depth : ℕ) (ws : Rows) → rows_over trees depth (kept_rows ws) ≡ rows_over trees depth ws
  kept_rows_over trees depth (w_last w) = kept_over trees depth w
  kept_rows_over trees depth (w_and w ws) =
      ap (λ o. o || rows_over (trees + tree_count (kept w)) depth (kept_rows ws)) (kept_over trees depth w)
      ∙ ap (λ m. tree_over trees depth w || rows_over (trees + m) depth (kept_rows ws)) (kept_count w)
      ∙ ap (λ o. tree_over trees depth w || o) (kept_rows_over (trees + tree_count w) depth ws)

-- the limits of single numbers

parts : (a b : Bool) → (a || b) ≡ false → (a ≡ false) × (b ≡ false)
parts true b h = cc
parts false b h = (refl, h)

short : (n : ℕ) → is_long n ≡ false → n < 2 ^ 64
short n e = grind (arith, nat_tests)

short_entry : (n : ℕ) → is_long_entry n ≡ false → n < 2 ^ 64
short_entry n e = grind (arith, nat_tests)

short_multiplier : (n : ℕ) → nat_le 1099511627776 n ≡ false → n < 2 ^ 64
short_multiplier n e = grind (arith, nat_tests)

abbrev AreShort : ℕ → ℕ → Type 0
AreShort row size = (row + 1 < 2 ^ 64) × (size < 2 ^ 64)

short_pick : (count row size : ℕ) → is_long_pick count row size ≡ false → AreShort row size
short_pick count row size e =
    let p = parts (is_long (row + 1) || nat_le 4096 count) (nat_le 1099511627776 size) e in
    let q = parts (is_long (row + 1)) (nat_le 4096 count) p.0 in
    (short (row + 1) q.0, short_multiplier size p.1)

short_term : (size v : ℕ) → (is_long_entry size || is_long (v + 1)) ≡ false → AreShort v size
short_term size v e = let p = parts (is_long_entry size) (is_long (v + 1)) e in (short (v + 1) p.1, short_entry size p.0)

-- the productions

two : (a b rest : List ℕ) → (a ++ b) ++ rest ≡ a ++ (b ++ rest)
two a b rest = append_assoc a b rest

three : (a b c rest : List ℕ) → (a ++ b ++ c) ++ rest ≡ a ++ (b ++ (c ++ rest))
three a b c rest = append_assoc (a ++ b) c rest ∙ append_assoc a b (c ++ rest)

five : (a b c d e rest : List ℕ) → (a ++ b ++ c ++ d ++ e) ++ rest ≡ a ++ (b ++ (c ++ (d ++ (e ++ rest))))
five a b c d e rest = append_assoc (a ++ b ++ c ++ d) e rest ∙ append_assoc (a ++ b ++ c) d (e ++ rest) ∙ three a b c (d ++ (e ++ rest))

int : (negative : Bool) (n : ℕ) (rest : List ℕ) (k : List Token) → n < 2 ^ 64 → EndsAt (tokens.Number n) rest → Spells rest k → Spells (int_text (signed_of negative n) ++ rest) (int_tokens (kept_int (negative, n)) k)
int false zero rest k s e h = number zero rest k s e h
int true zero rest k s e h = number zero rest k s e h
int false (suc n) rest k s e h = number (suc n) rest k s e h
int true (suc n) rest k s e h = sign 45 (decimal (suc n) ++ rest) (tokens.Number (suc n) ∷ k) (refl, refl, refl) (number (suc n) rest k s e h)

-- no digit is next
abbrev IsClear : List ℕ → Type 0
IsClear rest = (n : ℕ) → EndsAt (tokens.Number n) rest

pick : (p : ℕ × ℕ) (rest : List ℕ) (k : List Token) → AreShort p.0 p.1 → IsClear rest → Spells rest k → Spells (pick_text p ++ rest) (pick_tokens p k)
pick p rest k s e h = respelled (pick_tokens p k) _ _ (three (decimal (p.0 + 1)) (codes "*") (decimal p.1) rest)
    (number (p.0 + 1) (42 ∷ (decimal p.1 ++ rest)) (tokens.Sign 42 ∷ tokens.Number p.1 ∷ k) s.0 refl
    (sign 42 (decimal p.1 ++ rest) (tokens.Number p.1 ∷ k) (refl, refl, refl) (number p.1 rest k s.1 (e p.1) h)))

line : (p : ℕ × Int) (rest : List ℕ) (k : List Token) → AreShort p.0 p.1.1 → IsClear rest → Spells rest k → Spells (line_text (entry_of p) ++ rest) (line_tokens (kept_line p) k)
line p rest k s e h = respelled (line_tokens (kept_line p) k) _ _ (three (decimal (p.0 + 1)) (codes "*") (int_text (int_value p.1)) rest)
    (number (p.0 + 1) (42 ∷ (int_text (int_value p.1) ++ rest)) (tokens.Sign 42 ∷ int_tokens (kept_int p.1) k) s.0 refl
    (sign 42 (int_text (int_value p.1) ++ rest) (int_tokens (kept_int p.1) k) (refl, refl, refl) (int p.1.0 p.1.1 rest k s.1 (e p.1.1) h)))

term : (p : ℕ × Int) (rest : List ℕ) (k : List Token) → AreShort p.0 p.1.1 → IsClear rest → Spells rest k → Spells (term_text (entry_of p) ++ rest) (term_tokens (kept_line p) k)
term p rest k s e h = respelled (term_tokens (kept_line p) k) _ _ (three (int_text (int_value p.1)) (codes ":") (decimal (p.0 + 1)) rest)
    (int p.1.0 p.1.1 (58 ∷ (decimal (p.0 + 1) ++ rest)) (tokens.Sign 58 ∷ tokens.Number (p.0 + 1) ∷ k) s.1 refl
    (sign 58 (decimal (p.0 + 1) ++ rest) (tokens.Number (p.0 + 1) ∷ k) (refl, refl, refl) (number (p.0 + 1) rest k s.0 (e (p.0 + 1)) h)))

-- behind each of them a comma, or the sign that ends the list

more_picks_clear : (ps : List (ℕ × ℕ)) (c : ℕ) (rest : List ℕ) → is_digit c ≡ false → IsClear (more_picks_text ps ++ c ∷ rest)
more_picks_clear [] c rest h n = h
more_picks_clear (p ∷ ps) c rest h n = refl

more_lines_clear : (ps : List (ℕ × ℤ)) (c : ℕ) (rest : List ℕ) → is_digit c ≡ false → IsClear (more_lines_text ps ++ c ∷ rest)
more_lines_clear [] c rest h n = h
more_lines_clear (p ∷ ps) c rest h n = refl

more_terms_clear : (ps : List (ℕ × ℤ)) (c : ℕ) (rest : List ℕ) → is_digit c ≡ false → IsClear (more_terms_text ps ++ c ∷ rest)
more_terms_clear [] c rest h n = h
more_terms_clear (p ∷ ps) c rest h n = refl

picks : (count : ℕ) (ps : List (ℕ × ℕ)) (rest : List ℕ) (k : List Token) → picks_over count ps ≡ false → Spells (93 ∷ rest) k → Spells (more_picks_text ps ++ 93 ∷ rest) (picks_tokens ps k)
picks count [] rest k o h = h
picks count (p ∷ ps) rest k o h =
    let q = parts (is_long_pick count p.0 p.1) (picks_over (count + 1) ps) o in
    respelled (picks_tokens (p ∷ ps) k) _ _ (three (codes ", ") (pick_text p) (more_picks_text ps) (93 ∷ rest))
    (sign 44 (32 ∷ (pick_text p ++ (more_picks_text ps ++ 93 ∷ rest))) (pick_tokens p (picks_tokens ps k)) (refl, refl, refl)
    (blank (tokens.Number (p.0 + 1)) _ (tokens.Sign 42 ∷ tokens.Number p.1 ∷ picks_tokens ps k) (pick p (more_picks_text ps ++ 93 ∷ rest) (picks_tokens ps k) (short_pick count p.0 p.1 q.0) (more_picks_clear ps 93 rest refl) (picks (count + 1) ps rest k q.1 h))))

lines : (count : ℕ) (ps : List (ℕ × Int)) (rest : List ℕ) (k : List Token) → lines_over count ps ≡ false → Spells (93 ∷ rest) k → Spells (more_lines_text (map entry_of ps) ++ 93 ∷ rest) (lines_tokens (map kept_line ps) k)
lines count [] rest k o h = h
lines count (p ∷ ps) rest k o h =
    let q = parts (is_long_pick count p.0 p.1.1) (lines_over (count + 1) ps) o in
    respelled (lines_tokens (map kept_line (p ∷ ps)) k) _ _ (three (codes ", ") (line_text (entry_of p)) (more_lines_text (map entry_of ps)) (93 ∷ rest))
    (sign 44 (32 ∷ (line_text (entry_of p) ++ (more_lines_text (map entry_of ps) ++ 93 ∷ rest))) (line_tokens (kept_line p) (lines_tokens (map kept_line ps) k)) (refl, refl, refl)
    (blank (tokens.Number (p.0 + 1)) _ (tokens.Sign 42 ∷ int_tokens (kept_int p.1) (lines_tokens (map kept_line ps) k)) (line p (more_lines_text (map entry_of ps) ++ 93 ∷ rest) (lines_tokens (map kept_line ps) k) (short_pick count p.0 p.1.1 q.0) (more_lines_clear (map entry_of ps) 93 rest refl) (lines (count + 1) ps rest k q.1 h))))

blank_int : (i : Int) (rest : List ℕ) (k : List Token) → Spells rest (int_tokens i k) → Spells (32 ∷ rest) (int_tokens i k)
blank_int i rest k h = by i.0 h where
  by : (b : Bool) → Spells rest (cond b (tokens.Sign 45 ∷ tokens.Number i.1 ∷ k) (tokens.Number i.1 ∷ k)) → Spells (32 ∷ rest) (cond b (tokens.Sign 45 ∷ tokens.Number i.1 ∷ k) (tokens.Number i.1 ∷ k))
  by true g = blank (tokens.Sign 45) rest (tokens.Number i.1 ∷ k) g
  by false g = blank (tokens.Number i.1) rest k g

further_terms : (ts : List (ℕ × Int)) (rest : List ℕ) (k : List Token) → terms_over ts ≡ false → Spells (59 ∷ rest) k → Spells (more_terms_text (map entry_of ts) ++ 59 ∷ rest) (more_terms (map kept_line ts) k)
further_terms [] rest k o h = h
further_terms (t ∷ ts) rest k o h =
    let q = parts (is_long_entry t.1.1 || is_long (t.0 + 1)) (terms_over ts) o in
    respelled (more_terms (map kept_line (t ∷ ts)) k) _ _ (three (codes ", ") (term_text (entry_of t)) (more_terms_text (map entry_of ts)) (59 ∷ rest))
    (sign 44 (32 ∷ (term_text (entry_of t) ++ (more_terms_text (map entry_of ts) ++ 59 ∷ rest))) (term_tokens (kept_line t) (more_terms (map kept_line ts) k)) (refl, refl, refl)
    (blank_int (kept_int t.1) _ _ (term t (more_terms_text (map entry_of ts) ++ 59 ∷ rest) (more_terms (map kept_line ts) k) (short_term t.1.1 t.0 q.0) (more_terms_clear (map entry_of ts) 59 rest refl) (further_terms ts rest k q.1 h))))

terms : (ts : List (ℕ × Int)) (rest : List ℕ) (k : List Token) → terms_over ts ≡ false → Spells (59 ∷ rest) k → Spells (terms_text (map entry_of ts) ++ 59 ∷ rest) (terms_tokens (map kept_line ts) k)
terms [] rest k o h = h
terms (t ∷ ts) rest k o h =
    let q = parts (is_long_entry t.1.1 || is_long (t.0 + 1)) (terms_over ts) o in
    respelled (terms_tokens (map kept_line (t ∷ ts)) k) _ _ (two (term_text (entry_of t)) (more_terms_text (map entry_of ts)) (59 ∷ rest))
    (term t (more_terms_text (map entry_of ts) ++ 59 ∷ rest) (more_terms (map kept_line ts) k) (short_term t.1.1 t.0 q.0) (more_terms_clear (map entry_of ts) 59 rest refl) (further_terms ts rest k q.1 h))

-- a node's text by its pieces
node_text : (b : Branching) (n : ℕ) (ts : Trees) (rest : List ℕ) → tree_text (branching_of b n ts) ++ rest ≡ (letters_of (word_of_node b) ++ (32 ∷ decimal (n + 1) ++ codes " { ") ++ trees_text ts ++ codes "}") ++ rest
node_text nodes.Case n ts rest = refl
node_text nodes.Truth n ts rest = refl
node_text nodes.Split n ts rest = refl

four : (a b c d rest : List ℕ) → (a ++ b ++ c ++ d) ++ rest ≡ a ++ (b ++ (c ++ (d ++ rest)))
four a b c d rest = append_assoc (a ++ b ++ c) d rest ∙ three a b c (d ++ rest)

node_pieces : (w d ts rest : List ℕ) → (w ++ (32 ∷ d ++ codes " { ") ++ ts ++ codes "}") ++ rest ≡ w ++ (32 ∷ (d ++ (32 ∷ 123 ∷ 32 ∷ (ts ++ 125 ∷ rest))))
node_pieces w d ts rest = four w (32 ∷ d ++ codes " { ") ts (codes "}") rest ∙ ap (λ xs. w ++ (32 ∷ xs)) (append_assoc d (codes " { ") (ts ++ 125 ∷ rest))

cut_pieces : (us c ts rest : List ℕ) → ((codes "cut [" ++ us ++ codes "; " ++ c ++ codes "] { ") ++ ts ++ codes "}") ++ rest ≡ codes "cut" ++ (32 ∷ 91 ∷ (us ++ (59 ∷ 32 ∷ (c ++ (93 ∷ 32 ∷ 123 ∷ 32 ∷ (ts ++ 125 ∷ rest))))))
cut_pieces us c ts rest = three (codes "cut [" ++ us ++ codes "; " ++ c ++ codes "] { ") ts (codes "}") rest ∙ five (codes "cut [") us (codes "; ") c (codes "] { ") (ts ++ 125 ∷ rest)

mutual
  -- the text of a tree's meaning, in front of what no letter begins
  pub tree : (w : Written) (trees depth : ℕ) (rest : List ℕ) (k : List Token) → tree_over trees depth w ≡ false → EndsAt (tokens.Word words.Absurd) rest → Spells rest k → Spells (tree_text (meaning w) ++ rest) (tree_tokens (kept w) k)
  tree w_absurd trees depth rest k o e h = word words.Absurd rest k e h
  tree (w_farkas p ps) trees depth rest k o e h =
      let q = parts (none_left trees depth) (picks_over 0 (p ∷ ps)) o in
      let r = parts (is_long_pick 0 p.0 p.1) (picks_over 1 ps) q.1 in
      let more = more_picks_text ps ++ 93 ∷ rest in
      let toks = picks_tokens ps (tokens.Sign 93 ∷ k) in
      respelled (tree_tokens (w_farkas p ps) k) _ _ (three (codes "farkas [") (picks_text (p ∷ ps)) (codes "]") rest ∙ ap (λ xs. codes "farkas [" ++ xs) (two (pick_text p) (more_picks_text ps) (93 ∷ rest)))
      (word words.Farkas (32 ∷ 91 ∷ (pick_text p ++ more)) (tokens.Sign 91 ∷ pick_tokens p toks) refl
      (blank (tokens.Sign 91) (91 ∷ (pick_text p ++ more)) (pick_tokens p toks)
      (sign 91 (pick_text p ++ more) (pick_tokens p toks) (refl, refl, refl)
      (pick p more toks (short_pick 0 p.0 p.1 r.0) (more_picks_clear ps 93 rest refl)
      (picks 1 ps rest (tokens.Sign 93 ∷ k) r.1 (sign 93 rest k (refl, refl, refl) h))))))
  tree (w_linear p ps) trees depth rest k o e h =
      let q = parts (none_left trees depth) (lines_over 0 (p ∷ ps)) o in
      let r = parts (is_long_pick 0 p.0 p.1.1) (lines_over 1 ps) q.1 in
      let first = line_text (entry_of p) in
      let more = more_lines_text (map entry_of ps) ++ 93 ∷ rest in
      let toks = lines_tokens (map kept_line ps) (tokens.Sign 93 ∷ k) in
      respelled (tree_tokens (kept (w_linear p ps)) k) _ _ (three (codes "linear [") (lines_text (map entry_of (p ∷ ps))) (codes "]") rest ∙ ap (λ xs. codes "linear [" ++ xs) (two first (more_lines_text (map entry_of ps)) (93 ∷ rest)))
      (word words.Linear (32 ∷ 91 ∷ (first ++ more)) (tokens.Sign 91 ∷ line_tokens (kept_line p) toks) refl
      (blank (tokens.Sign 91) (91 ∷ (first ++ more)) (line_tokens (kept_line p) toks)
      (sign 91 (first ++ more) (line_tokens (kept_line p) toks) (refl, refl, refl)
      (line p more toks (short_pick 0 p.0 p.1.1 r.0) (more_lines_clear (map entry_of ps) 93 rest refl)
      (lines 1 ps rest (tokens.Sign 93 ∷ k) r.1 (sign 93 rest k (refl, refl, refl) h))))))
  tree (w_node b n ws) trees depth rest k o e h =
      let q = parts (none_left trees depth) (is_long (n + 1) || rows_over (trees + 1) (depth + 1) ws) o in
      let r = parts (is_long (n + 1)) (rows_over (trees + 1) (depth + 1) ws) q.1 in
      let inner = trees_text (meanings ws) ++ 125 ∷ rest in
      let toks = rows_tokens (kept_rows ws) (tokens.Sign 125 ∷ k) in
      respelled (tree_tokens (kept (w_node b n ws)) k) _ _ (node_text b n (meanings ws) rest ∙ node_pieces (letters_of (word_of_node b)) (decimal (n + 1)) (trees_text (meanings ws)) rest)
      (word (word_of_node b) (32 ∷ (decimal (n + 1) ++ (32 ∷ 123 ∷ 32 ∷ inner))) (tokens.Number (n + 1) ∷ tokens.Sign 123 ∷ toks) refl
      (blank (tokens.Number (n + 1)) (decimal (n + 1) ++ (32 ∷ 123 ∷ 32 ∷ inner)) (tokens.Sign 123 ∷ toks)
      (number (n + 1) (32 ∷ 123 ∷ 32 ∷ inner) (tokens.Sign 123 ∷ toks) (short (n + 1) r.0) refl
      (blank (tokens.Sign 123) (123 ∷ 32 ∷ inner) toks
      (sign 123 (32 ∷ inner) toks (refl, refl, refl)
      (blank_rows (kept_rows ws) inner (tokens.Sign 125 ∷ k)
      (row ws (trees + 1) (depth + 1) (125 ∷ rest) (tokens.Sign 125) k r.1 (sign 125 rest k (refl, refl, refl) h))))))))
  tree (w_cut us c ws) trees depth rest k o e h =
      let q = parts (none_left trees depth) (terms_over us || (is_long_entry c.1 || rows_over (trees + 1) (depth + 1) ws)) o in
      let r = parts (terms_over us) (is_long_entry c.1 || rows_over (trees + 1) (depth + 1) ws) q.1 in
      let t = parts (is_long_entry c.1) (rows_over (trees + 1) (depth + 1) ws) r.1 in
      let inner = trees_text (meanings ws) ++ 125 ∷ rest in
      let rows = rows_tokens (kept_rows ws) (tokens.Sign 125 ∷ k) in
      let constant = int_text (int_value c) ++ (93 ∷ 32 ∷ 123 ∷ 32 ∷ inner) in
      let toks = int_tokens (kept_int c) (tokens.Sign 93 ∷ tokens.Sign 123 ∷ rows) in
      let form = terms_text (map entry_of us) in
      let form_toks = terms_tokens (map kept_line us) (tokens.Sign 59 ∷ toks) in
      respelled (tree_tokens (kept (w_cut us c ws)) k) _ _ (cut_pieces form (int_text (int_value c)) (trees_text (meanings ws)) rest)
      (word words.Cut (32 ∷ 91 ∷ (form ++ (59 ∷ 32 ∷ constant))) (tokens.Sign 91 ∷ form_toks) refl
      (blank (tokens.Sign 91) (91 ∷ (form ++ (59 ∷ 32 ∷ constant))) form_toks
      (sign 91 (form ++ (59 ∷ 32 ∷ constant)) form_toks (refl, refl, refl)
      (terms us (32 ∷ constant) (tokens.Sign 59 ∷ toks) r.0
      (sign 59 (32 ∷ constant) toks (refl, refl, refl)
      (blank_int (kept_int c) constant (tokens.Sign 93 ∷ tokens.Sign 123 ∷ rows)
      (int c.0 c.1 (93 ∷ 32 ∷ 123 ∷ 32 ∷ inner) (tokens.Sign 93 ∷ tokens.Sign 123 ∷ rows) (short_entry c.1 t.0) refl
      (sign 93 (32 ∷ 123 ∷ 32 ∷ inner) (tokens.Sign 123 ∷ rows) (refl, refl, refl)
      (blank (tokens.Sign 123) (123 ∷ 32 ∷ inner) rows
      (sign 123 (32 ∷ inner) rows (refl, refl, refl)
      (blank_rows (kept_rows ws) inner (tokens.Sign 125 ∷ k)
      (row ws (trees + 1) (depth + 1) (125 ∷ rest) (tokens.Sign 125) k t.1 (sign 125 rest k (refl, refl, refl) h)))))))))))))

  -- the trees of a row, each with a blank behind it
  row : (ws : Rows) (trees depth : ℕ) (rest : List ℕ) (t : Token) (k : List Token) → rows_over trees depth ws ≡ false → Spells rest (t ∷ k) → Spells (trees_text (meanings ws) ++ rest) (rows_tokens (kept_rows ws) (t ∷ k))
  row (w_last w) trees depth rest t k o h =
      respelled (tree_tokens (kept w) (t ∷ k)) _ _ (three (tree_text (meaning w)) (codes " ") [] rest)
      (tree w trees depth (32 ∷ rest) (t ∷ k) o refl (blank t rest k h))
  row (w_and w ws) trees depth rest t k o h =
      let q = parts (tree_over trees depth w) (rows_over (trees + tree_count w) depth ws) o in
      let inner = trees_text (meanings ws) ++ rest in
      respelled (tree_tokens (kept w) (rows_tokens (kept_rows ws) (t ∷ k))) _ _ (three (tree_text (meaning w)) (codes " ") (trees_text (meanings ws)) rest)
      (tree w trees depth (32 ∷ inner) (rows_tokens (kept_rows ws) (t ∷ k)) q.0 refl (blank_rows (kept_rows ws) inner (t ∷ k) (row ws (trees + tree_count w) depth rest t k q.1 h)))

-- a block's text without the line feed behind it
abbrev pub line_text_of : ℕ → Tree → List ℕ
line_text_of n t = codes "cert " ++ (decimal n ++ (32 ∷ (tree_text t ++ 59 ∷ [])))

pub block_pieces : (n : ℕ) (t : Tree) (rest : List ℕ) → block_text n t ++ rest ≡ line_text_of n t ++ (10 ∷ rest)
block_pieces n t rest =
    five (codes "cert ") (decimal n) (codes " ") (tree_text t) (codes ";\n") rest
    ∙ sym (append_assoc (codes "cert ") (decimal n ++ (32 ∷ (tree_text t ++ 59 ∷ []))) (10 ∷ rest)
    ∙ ap (λ xs. codes "cert " ++ xs) (append_assoc (decimal n) (32 ∷ (tree_text t ++ 59 ∷ [])) (10 ∷ rest) ∙ ap (λ xs. decimal n ++ (32 ∷ xs)) (append_assoc (tree_text t) (59 ∷ []) (10 ∷ rest))))

small_number : (n : ℕ) → n < 2 ^ 32 → n < 2 ^ 64
small_number n h = omega (arith, h)

pub text_spells : (n : ℕ) (second : Bool) (w : Written) → n < 2 ^ 32 → IsBlock n second w → Spells (line_text_of n (meaning w)) (block_tokens n (kept w) [])
text_spells n second w s p =
    let toks = tree_tokens (kept w) (tokens.Sign 59 ∷ []) in
    let text = tree_text (meaning w) ++ 59 ∷ [] in
    word words.Cert (32 ∷ (decimal n ++ (32 ∷ text))) (tokens.Number n ∷ toks) refl
    (blank (tokens.Number n) (decimal n ++ (32 ∷ text)) toks
    (number n (32 ∷ text) toks (small_number n s) refl
    (blank_tree (kept w) text (tokens.Sign 59 ∷ [])
    (tree w 0 0 (59 ∷ []) (tokens.Sign 59 ∷ []) p.within refl (sign 59 [] [] (refl, refl, refl) refl)))))

pub kept_block : (n : ℕ) (second : Bool) (w : Written) → IsBlock n second w → IsBlock n second (kept w)
kept_block n second w p = record { proper = kept_proper second w p.proper; within = kept_over 0 0 w ∙ p.within }
