-- The front of a line: its blanks, and its first word; and the first line of a text.
use Rattle.std.proofs.Common.{append_assoc, ◌≡◌, ℕ, suc, ◌+◌, ◌-◌, ◌<◌, ◌≤◌, Bool, true, false, not, cond, List, [], ◌∷◌, ◌++◌, length, map, take, drop, refl, ap, subst, ◌∙◌, sym, arith}
use Rattle.std.proofs.lemmas.List.{length-drop, map-append, take_all}
use Rattle.std.specs.Borrow.{Bor}
use Rattle.std.specs.Prelude.{if◌then◌else◌}
use Rattle.std.specs.List.{prefix_len}
use Rattle.shared_certificates.specs.Lines.{begins_word, is_blank, is_line_feed, lines, onto_first, words}
use Rattle.shared_certificates.specs.Views.{IsTrimmed, bytes_of}

-- how long the word in front is, and the line
abbrev pub word_len : List ℕ → ℕ
word_len bs = prefix_len (λ b. not (is_blank b)) bs

abbrev pub line_len : List ℕ → ℕ
line_len bs = prefix_len (λ b. not (is_line_feed b)) bs

-- ---- blanks
more-blank : (b : ℕ) (bs : List ℕ) → is_blank b ≡ true → words (b ∷ bs) ≡ words bs
more-blank b bs e = ap (λ l. if l then words bs else (if begins_word bs then onto_first b (words bs) else (b ∷ []) ∷ words bs)) e

pub behind-blanks : (bs : List ℕ) → words (drop (prefix_len is_blank bs) bs) ≡ words bs
behind-blanks [] = refl
behind-blanks (b ∷ bs) = by (is_blank b) refl (behind-blanks bs) where
  by : (l : Bool) → is_blank b ≡ l → words (drop (prefix_len is_blank bs) bs) ≡ words bs → words (drop (cond l (1 + prefix_len is_blank bs) 0) (b ∷ bs)) ≡ words (b ∷ bs)
  by true e h =
      let n : 1 + prefix_len is_blank bs ≡ suc (prefix_len is_blank bs) = omega arith in
      ap (λ m. words (drop m (b ∷ bs))) n ∙ h ∙ sym (more-blank b bs e)
  by false e h = refl

pub is-trimmed : (bs : List ℕ) → IsTrimmed (drop (prefix_len is_blank bs) bs)
is-trimmed [] = tt
is-trimmed (b ∷ bs) = by (is_blank b) refl (is-trimmed bs) where
  by : (l : Bool) → is_blank b ≡ l → IsTrimmed (drop (prefix_len is_blank bs) bs) → IsTrimmed (drop (cond l (1 + prefix_len is_blank bs) 0) (b ∷ bs))
  by true e h =
      let n : suc (prefix_len is_blank bs) ≡ 1 + prefix_len is_blank bs = omega arith in
      subst (λ m. IsTrimmed (drop m (b ∷ bs))) n h
  by false e h = ap not e

-- ---- the first word
unblank : (b : ℕ) (bs : List ℕ) → is_blank b ≡ false → words (b ∷ bs) ≡ (if begins_word bs then onto_first b (words bs) else (b ∷ []) ∷ words bs)
unblank b bs e = ap (λ l. if l then words bs else (if begins_word bs then onto_first b (words bs) else (b ∷ []) ∷ words bs)) e

longer-word : (b : ℕ) (bs : List ℕ) → is_blank b ≡ false → word_len (b ∷ bs) ≡ suc (word_len bs)
longer-word b bs e =
    let n : 1 + word_len bs ≡ suc (word_len bs) = omega arith in
    ap (λ l. cond (not l) (1 + word_len bs) 0) e ∙ n

cut-word : (b : ℕ) (bs : List ℕ) → is_blank b ≡ false → take (word_len (b ∷ bs)) (b ∷ bs) ∷ words (drop (word_len (b ∷ bs)) (b ∷ bs)) ≡ (b ∷ take (word_len bs) bs) ∷ words (drop (word_len bs) bs)
cut-word b bs e = ap (λ k. take k (b ∷ bs) ∷ words (drop k (b ∷ bs))) (longer-word b bs e)

first-word : (b : ℕ) (bs : List ℕ) → is_blank b ≡ false → words (b ∷ bs) ≡ take (word_len (b ∷ bs)) (b ∷ bs) ∷ words (drop (word_len (b ∷ bs)) (b ∷ bs))
first-word b [] e = unblank b [] e ∙ sym (cut-word b [] e)
first-word b (c ∷ cs) e = unblank b (c ∷ cs) e ∙ by (is_blank c) refl (λ h. first-word c cs h) ∙ sym (cut-word b (c ∷ cs) e) where
  by : (l : Bool) → is_blank c ≡ l → (is_blank c ≡ false → words (c ∷ cs) ≡ take (word_len (c ∷ cs)) (c ∷ cs) ∷ words (drop (word_len (c ∷ cs)) (c ∷ cs)))
      → (if not (is_blank c) then onto_first b (words (c ∷ cs)) else (b ∷ []) ∷ words (c ∷ cs)) ≡ (b ∷ take (word_len (c ∷ cs)) (c ∷ cs)) ∷ words (drop (word_len (c ∷ cs)) (c ∷ cs))
  by true h next =
      ap (λ x. if not x then onto_first b (words (c ∷ cs)) else (b ∷ []) ∷ words (c ∷ cs)) h
      ∙ sym (ap (λ k. (b ∷ take k (c ∷ cs)) ∷ words (drop k (c ∷ cs))) (ap (λ x. cond (not x) (1 + word_len cs) 0) h))
  by false h next = ap (λ x. if not x then onto_first b (words (c ∷ cs)) else (b ∷ []) ∷ words (c ∷ cs)) h ∙ ap (onto_first b) (next h)

unnot : (l : Bool) → not l ≡ true → l ≡ false
unnot true h = absurd (cc)
unnot false h = refl

pub front-word : (bs : List ℕ) (k : ℕ) → IsTrimmed bs → 0 < length bs → k ≡ word_len bs → words bs ≡ take k bs ∷ words (drop k bs)
front-word [] k t h e = absurd (omega (arith, h))
front-word (b ∷ bs) k t h e = first-word b bs (unnot (is_blank b) t) ∙ ap (λ j. take j (b ∷ bs) ∷ words (drop j (b ∷ bs))) (sym e)

pub some-word : (bs : List ℕ) (k : ℕ) → IsTrimmed bs → 0 < length bs → k ≡ word_len bs → 0 < k
some-word [] k t h e = absurd (omega (arith, h))
some-word (b ∷ bs) k t h e = omega (arith, e, longer-word b bs (unnot (is_blank b) t))

-- a word more is read
pub word-more : (out : List (Bor (List ℕ))) (w : Bor (List ℕ)) (rest behind next : List ℕ) (k : ℕ) (whole : List (List ℕ)) → IsTrimmed rest → 0 < length rest → k ≡ word_len rest → w.now ≡ take k rest → behind ≡ drop k rest
    → words next ≡ words behind → map bytes_of out ++ words rest ≡ whole → map bytes_of (out ++ w ∷ []) ++ words next ≡ whole
word-more out w rest behind next k whole t h e front back same inv =
    ap (λ a. a ++ words next) (map-append bytes_of out (w ∷ []))
    ∙ append_assoc (map bytes_of out) (bytes_of w ∷ []) (words next)
    ∙ ap (λ ws. map bytes_of out ++ (bytes_of w ∷ ws)) (same ∙ ap words back)
    ∙ ap (λ x. map bytes_of out ++ (x ∷ words (drop k rest))) front
    ∙ ap (λ ws. map bytes_of out ++ ws) (sym (front-word rest k t h e))
    ∙ inv

-- ---- the first line
longer-line : (b : ℕ) (bs : List ℕ) → is_line_feed b ≡ false → line_len (b ∷ bs) ≡ suc (line_len bs)
longer-line b bs e =
    let n : 1 + line_len bs ≡ suc (line_len bs) = omega arith in
    ap (λ l. cond (not l) (1 + line_len bs) 0) e ∙ n

abbrev cut_line : ℕ → List ℕ → List (List ℕ)
cut_line k bs = take k bs ∷ lines (drop 1 (drop k bs))

onto-line : (b : ℕ) (bs : List ℕ) → (0 < length bs → lines bs ≡ cut_line (line_len bs) bs) → onto_first b (lines bs) ≡ (b ∷ take (line_len bs) bs) ∷ lines (drop 1 (drop (line_len bs) bs))
onto-line b [] h = refl
onto-line b (c ∷ cs) h = ap (onto_first b) (h (omega arith))

pub first-line : (bs : List ℕ) → 0 < length bs → lines bs ≡ cut_line (line_len bs) bs
first-line [] h = absurd (omega (arith, h))
first-line (b ∷ bs) h = by (is_line_feed b) refl (λ k. first-line bs k) where
  by : (l : Bool) → is_line_feed b ≡ l → (0 < length bs → lines bs ≡ cut_line (line_len bs) bs) → lines (b ∷ bs) ≡ cut_line (line_len (b ∷ bs)) (b ∷ bs)
  by true e next =
      ap (λ l. if l then [] ∷ lines bs else onto_first b (lines bs)) e
      ∙ sym (ap (λ k. cut_line k (b ∷ bs)) (ap (λ l. cond (not l) (1 + line_len bs) 0) e))
  by false e next =
      ap (λ l. if l then [] ∷ lines bs else onto_first b (lines bs)) e ∙ onto-line b bs next
      ∙ sym (ap (λ k. cut_line k (b ∷ bs)) (longer-line b bs e))

first-cut : (bs front rest : List ℕ) (k : ℕ) → 0 < length bs → k ≡ line_len bs → front ≡ take k bs → rest ≡ drop k bs → lines bs ≡ front ∷ lines (drop 1 rest)
first-cut bs front rest k h e f r =
    first-line bs h ∙ ap (λ j. cut_line j bs) (sym e) ∙ ap (λ x. take k bs ∷ lines (drop 1 x)) (sym r) ∙ ap (λ x. x ∷ lines (drop 1 rest)) (sym f)

-- the line is the last, or one that a line feed ends
pub last-line : (bs front rest : List ℕ) (k : ℕ) → 0 < length bs → k ≡ line_len bs → front ≡ take k bs → rest ≡ drop k bs → length rest < 1 → lines bs ≡ front ∷ lines rest
last-line bs front [] k h e f r l = first-cut bs front [] k h e f r
last-line bs front (x ∷ xs) k h e f r l = absurd (omega (arith, l))

pub ended-line : (bs front rest : List ℕ) (k : ℕ) → 0 < length bs → k ≡ line_len bs → front ≡ take k bs → rest ≡ drop k bs → lines bs ≡ front ∷ lines (take (length rest - 1) (drop 1 rest))
ended-line bs front rest k h e f r =
    let all : length (drop 1 rest) ≤ length rest - 1 = omega (arith, length-drop 1 rest) in
    first-cut bs front rest k h e f r ∙ ap (λ xs. front ∷ lines xs) (sym (take_all (length rest - 1) (drop 1 rest) all))
