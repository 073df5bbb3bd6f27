-- Words that are written: not empty, and without a blank or a line feed.
use Rattle.std.proofs.Common.{append_assoc, ◌≡◌, ℕ, ℤ, pos, negsuc, suc, ◌+◌, ◌<◌, ◌≤◌, ◌^◌, Bool, true, false, not, cond, List, [], ◌∷◌, ◌++◌, length, map, refl, ap, subst, ◌∙◌, sym, arith, codes, All, unsigned_abs, nat_le, ◌&&◌}
use Rattle.std.specs.Fmt.{decimal, signed_decimal}
use Rattle.std.proofs.lemmas.Bool.{and_parts}
use Rattle.std.proofs.lemmas.Bool.Decides.{nat_tests}
use Rattle.std.proofs.lemmas.List.Elements.{All-head, All-tail}
use Rattle.std.proofs.lemmas.Fmt.{digits_decimal, decimal_nonempty}
use Rattle.st_certificate.specs.Tree.{Step, by_case, by_truth, by_split, by_cut}
use Rattle.shared_certificates.specs.Lines.{begins_word, is_blank, is_line_feed, lines, onto_first, words}
use Rattle.shared_certificates.specs.Nodes.{Node, contradiction, farkas_sum, linear_sum, division}
use Rattle.shared_certificates.specs.Grammar.{IsNode, IsStep, cert_words, line_word, node_words, number_word, pick_word, step_words, term_word, tree_words}
use Rattle.shared_certificates.specs.Reading.{are_digits, is_digit}
use Rattle.shared_certificate_laws.proofs.Numerals.{digit-in, own}
use Rattle.shared_writing.specs.Writing.{line_text, spaced}

-- each byte stands behind the space in the code
abbrev pub AreDark : List ℕ → Type 0
AreDark [] = Unit {0}
AreDark (b ∷ bs) = (33 ≤ b) × AreDark bs

abbrev pub IsPlain : List ℕ → Type 0
IsPlain w = (0 < length w) × AreDark w

abbrev pub ArePlain : List (List ℕ) → Type 0
ArePlain [] = Unit {0}
ArePlain (w ∷ ws) = IsPlain w × ArePlain ws

no-blank : (b : ℕ) → 33 ≤ b → is_blank b ≡ false
no-blank b h = grind (arith, nat_tests)

no-feed : (b : ℕ) → 33 ≤ b → is_line_feed b ≡ false
no-feed b h = grind (arith, nat_tests)

dark-append : (a b : List ℕ) → AreDark a → AreDark b → AreDark (a ++ b)
dark-append [] b h k = k
dark-append (x ∷ a) b h k = (h.0, dark-append a b h.1 k)

-- ---- words behind one another
step-word : (b : ℕ) (bs : List ℕ) → 33 ≤ b → words (b ∷ bs) ≡ cond (begins_word bs) (onto_first b (words bs)) ((b ∷ []) ∷ words bs)
step-word b bs h = ap (λ l. cond l (words bs) (cond (begins_word bs) (onto_first b (words bs)) ((b ∷ []) ∷ words bs))) (no-blank b h)

one-word : (b : ℕ) (bs rest : List ℕ) → 33 ≤ b → AreDark bs → begins_word rest ≡ false → words (b ∷ (bs ++ rest)) ≡ (b ∷ bs) ∷ words rest
one-word b [] rest h k e = step-word b rest h ∙ ap (λ l. cond l (onto_first b (words rest)) ((b ∷ []) ∷ words rest)) e
one-word b (c ∷ cs) rest h k e =
    step-word b (c ∷ (cs ++ rest)) h
    ∙ ap (λ l. cond (not l) (onto_first b (words (c ∷ (cs ++ rest)))) ((b ∷ []) ∷ words (c ∷ (cs ++ rest)))) (no-blank c k.0)
    ∙ ap (onto_first b) (one-word c cs rest k.0 k.1 e)

front-word : (w rest : List ℕ) → IsPlain w → begins_word rest ≡ false → words (w ++ rest) ≡ w ∷ words rest
front-word [] rest h e = absurd (omega (arith, h.0))
front-word (b ∷ bs) rest h e = one-word b bs rest h.1.0 h.1.1 e

no-word : (ws : List (List ℕ)) → begins_word (spaced ws) ≡ false
no-word [] = refl
no-word (w ∷ ws) = refl

spaced-words : (ws : List (List ℕ)) → ArePlain ws → words (spaced ws) ≡ ws
spaced-words [] h = refl
spaced-words (w ∷ ws) h = front-word w (spaced ws) h.0 (no-word ws) ∙ ap (λ x. w ∷ x) (spaced-words ws h.1)

-- ---- a line in front of others
abbrev AreLined : List ℕ → Type 0
AreLined [] = Unit {0}
AreLined (b ∷ bs) = (is_line_feed b ≡ false) × AreLined bs

dark-lined : (bs rest : List ℕ) → AreDark bs → AreLined rest → AreLined (bs ++ rest)
dark-lined [] rest h k = k
dark-lined (b ∷ bs) rest h k = (no-feed b h.0, dark-lined bs rest h.1 k)

spaced-lined : (ws : List (List ℕ)) → ArePlain ws → AreLined (spaced ws)
spaced-lined [] h = tt
spaced-lined (w ∷ ws) h = (refl, dark-lined w (spaced ws) h.0.1 (spaced-lined ws h.1))

cut-line : (l rest : List ℕ) → AreLined l → lines (l ++ 10 ∷ rest) ≡ l ∷ lines rest
cut-line [] rest h = refl
cut-line (b ∷ bs) rest h = ap (λ x. cond x ([] ∷ lines (bs ++ 10 ∷ rest)) (onto_first b (lines (bs ++ 10 ∷ rest)))) h.0 ∙ ap (onto_first b) (cut-line bs rest h.1)

pub record InFront (ws : List (List ℕ)) (rest : List ℕ) : Type 0 where
  pub line : List ℕ
  pub is : lines (line_text ws ++ rest) ≡ line ∷ lines rest
  pub spells : words line ≡ ws

pub in-front : (w : List ℕ) (ws : List (List ℕ)) (rest : List ℕ) → ArePlain (w ∷ ws) → InFront (w ∷ ws) rest
in-front w ws rest h =
    let l : List ℕ = w ++ spaced ws in
    let same : line_text (w ∷ ws) ++ rest ≡ l ++ 10 ∷ rest =
    append_assoc w (spaced ws ++ 10 ∷ []) rest ∙ ap (λ x. w ++ x) (append_assoc (spaced ws) (10 ∷ []) rest) ∙ sym (append_assoc w (spaced ws) (10 ∷ rest)) in
    record {
      line = l;
      is = ap lines same ∙ cut-line l rest (dark-lined w (spaced ws) h.0.1 (spaced-lined ws h.1));
      spells = front-word w (spaced ws) h.0 (no-word ws) ∙ ap (λ x. w ∷ x) (spaced-words ws h.1);
    }

-- ---- the words of lines
dark-digits : (ds : List ℕ) → are_digits ds ≡ true → AreDark ds
dark-digits [] h = tt
dark-digits (d ∷ ds) h = let p = and_parts (is_digit d) (are_digits ds) h in let i = digit-in d p.0 in (omega (arith, i.0), dark-digits ds p.1)

plain-number : (n : ℕ) → n < 2 ^ 64 → IsPlain (decimal n)
plain-number n h = (decimal_nonempty n h, dark-digits (decimal n) (digits_decimal own n h))

plain-int : (z : ℤ) → unsigned_abs z < 2 ^ 64 → IsPlain (signed_decimal z)
plain-int (pos n) h = plain-number n h
plain-int (negsuc n) h = let p = plain-number (suc n) h in (omega arith, (omega arith, p.1))

plain-both : (a b : List ℕ) (sign : ℕ) → IsPlain a → 33 ≤ sign → IsPlain b → IsPlain (a ++ sign ∷ b)
plain-both [] b sign h k l = absurd (omega (arith, h.0))
plain-both (x ∷ a) b sign h k l = (omega arith, (h.1.0, dark-append a (sign ∷ b) h.1.1 (k, l.1)))

pub plain-index : (n : ℕ) → n < 4294967295 → IsPlain (number_word n)
plain-index n h = plain-number (n + 1) (omega (arith, h))

plain-map : {A : Type 0} (g : A → List ℕ) (Q : A → Type 0) → ((x : A) → Q x → IsPlain (g x)) → (xs : List A) → All Q xs → ArePlain (map g xs)
plain-map g Q each [] h = tt
plain-map g Q each (x ∷ xs) h = (each x (All-head Q x xs h), plain-map g Q each xs (All-tail Q x xs h))

plain-append : (vs ws : List (List ℕ)) → ArePlain vs → ArePlain ws → ArePlain (vs ++ ws)
plain-append [] ws h k = k
plain-append (v ∷ vs) ws h k = (h.0, plain-append vs ws h.1 k)

abbrev IsPick : ℕ × ℕ → Type 0
IsPick p = (p.0 < 4294967295) × (p.1 < 1099511627776)

abbrev IsLine : ℕ × ℤ → Type 0
IsLine p = (p.0 < 4294967295) × (unsigned_abs p.1 < 1099511627776)

abbrev IsTerm : ℕ × ℤ → Type 0
IsTerm e = (e.0 < 4294967295) × (unsigned_abs e.1 ≤ 1152921504606846976)

plain-pick : (p : ℕ × ℕ) → IsPick p → IsPlain (pick_word p)
plain-pick p h = plain-both (decimal (p.0 + 1)) (decimal p.1) 42 (plain-index p.0 h.0) (omega arith) (plain-number p.1 (omega (arith, h.1)))

plain-line : (p : ℕ × ℤ) → IsLine p → IsPlain (line_word p)
plain-line p h = plain-both (decimal (p.0 + 1)) (signed_decimal p.1) 42 (plain-index p.0 h.0) (omega arith) (plain-int p.1 (omega (arith, h.1)))

plain-term : (e : ℕ × ℤ) → IsTerm e → IsPlain (term_word e)
plain-term e h = plain-both (signed_decimal e.1) (decimal (e.0 + 1)) 58 (plain-int e.1 (omega (arith, h.1))) (omega arith) (plain-index e.0 h.0)

abbrev all_dark : List ℕ → Bool
all_dark [] = true
all_dark (b ∷ bs) = nat_le 33 b && all_dark bs

some-byte : (n : ℕ) → nat_le 1 n ≡ true → 0 < n
some-byte n e = grind (arith, nat_tests)

dark-byte : (b : ℕ) → nat_le 33 b ≡ true → 33 ≤ b
dark-byte b e = grind (arith, nat_tests)

dark-bytes : (bs : List ℕ) → all_dark bs ≡ true → AreDark bs
dark-bytes [] e = tt
dark-bytes (b ∷ bs) e = let p = and_parts (nat_le 33 b) (all_dark bs) e in (dark-byte b p.0, dark-bytes bs p.1)

-- a name of letters
plain-name : (w : List ℕ) → (nat_le 1 (length w) && all_dark w) ≡ true → IsPlain w
plain-name w h = let p = and_parts (nat_le 1 (length w)) (all_dark w) h in (some-byte (length w) p.0, dark-bytes w p.1)

plain-step : (s : Step) → IsStep s → ArePlain (step_words s)
plain-step (by_case c) h = (plain-name (codes "case") refl, (plain-index c h, tt))
plain-step (by_truth v) h = (plain-name (codes "bool") refl, (plain-index v h, tt))
plain-step (by_split k) h = (plain-name (codes "split") refl, (plain-index k h, tt))
plain-step (by_cut f) h = (plain-name (codes "cut") refl, (plain-int f.constant (omega (arith, h.1)), plain-map term_word IsTerm plain-term f.entries h.2))

plain-node : (count : ℕ) (n : Node) → IsNode count n → ArePlain (node_words n)
plain-node count contradiction h = (plain-name (codes "absurd") refl, tt)
plain-node count (farkas_sum ps) h = (plain-name (codes "farkas") refl, plain-map pick_word IsPick plain-pick ps h.1)
plain-node count (linear_sum ps) h = (plain-name (codes "linear") refl, plain-map line_word IsLine plain-line ps h.1)
plain-node count (division s ns) h =
    plain-append (step_words s) (codes ":" ∷ map number_word ns) (plain-step s h.0)
    (plain-name (codes ":") refl, plain-map number_word (λ n. (n < count) × (n < 4294967295)) (λ n r. plain-index n r.1) ns h.1)

pub plain-tree : (count number : ℕ) (n : Node) → number < 4294967295 → IsNode count n → ArePlain (tree_words number n)
plain-tree count number n h k = (plain-name (codes "tree") refl, (plain-index number h, plain-node count n k))

pub plain-cert : (number root : ℕ) → number < 4294967295 → root < 4294967295 → ArePlain (cert_words number root)
plain-cert number root h k = (plain-name (codes "cert") refl, (plain-index number h, (plain-index root k, tt)))

pub plain-header : ArePlain (codes "version" ∷ codes "3" ∷ [])
plain-header = (plain-name (codes "version") refl, (plain-name (codes "3") refl, tt))
