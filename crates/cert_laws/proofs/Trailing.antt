-- What `trailing` takes as blank, a whole header too, is read as blank: it changes no answer.
use Rattle.std.proofs.Common.{◌≡◌, ℕ, suc, ◌+◌, Bool, true, false, cond, ◌&&◌, not, List, [], ◌∷◌, ◌++◌, length, drop, refl, sym, ap, ◌∙◌, arith, codes, nat_lt, nat_eq, ◌==◌, one-add}
use Rattle.std.proofs.lemmas.Bool.Decides.{Decides-eqb}
use Rattle.std.proofs.lemmas.List.{length-append, drop-drop}
use Rattle.std.proofs.lemmas.Slice.Eq.{starts_is}
use Rattle.std.specs.List.{starts_with}
use Rattle.cert_text.specs.declared.scan.Want.TheVariants as wants
use Rattle.cert_text.specs.Letters.{is_blank}
use Rattle.cert_text.specs.Blank.{blank_len, byte_behind, header_len, front_len, past, may_begin, past_blanks}
use Rattle.cert_text.specs.Reading.{State, going, malformed, over, whole, idle, after, start}
use Rattle.cert_text.specs.Run.{scan_at}
use Rattle.cert_text.specs.Tree.{last_tree}
use Rattle.cert_text.specs.Answer.{block, need, at_end}
use Rattle.cert_text.specs.Held.{Held, answer_of, answer_at, outcome}
use Rattle.cert_laws.specs.Spelled.{AreAll, IsHeader}
use Rattle.cert_laws.proofs.Lexing.{blanks_read}
use Rattle.cert_laws.proofs.HeaderRead.{header_taken, first_start, regrouped, Behind}
use Rattle.cert_laws.proofs.Begun.{Start, none_built}

no_truth : false ≡ true → ⊥
no_truth h = cc

-- the blanks in front, and what is behind them
abbrev Blanks : List ℕ → Type 0
Blanks bs = (front : List ℕ) × (bs ≡ front ++ drop (blank_len bs) bs) × AreAll is_blank front × (length front ≡ blank_len bs)

blanks_of : (bs : List ℕ) → Blanks bs
blanks_of [] = ([], refl, tt, refl)
blanks_of (x ∷ bs) = by (is_blank x) refl (blanks_of bs) where
  by : (c : Bool) → is_blank x ≡ c → Blanks bs → Blanks (x ∷ bs)
  by true e r =
      let n : blank_len (x ∷ bs) ≡ suc (blank_len bs) = ap (λ c. cond c (1 + blank_len bs) 0) e ∙ one-add (blank_len bs) in
      (x ∷ r.0, ap (λ l. x ∷ l) r.1 ∙ ap (λ m. (x ∷ r.0) ++ drop m (x ∷ bs)) (sym n), (e, r.2), ap suc r.3 ∙ sym n)
  by false e r =
      let n : blank_len (x ∷ bs) ≡ 0 = ap (λ c. cond c (1 + blank_len bs) 0) e in
      ([], ap (λ m. drop m (x ∷ bs)) (sym n), tt, sym n)

starts : (bs word : List ℕ) → starts_with nat_eq bs word ≡ true → bs ≡ word ++ drop (length word) bs
starts bs word h = (starts_is Decides-eqb bs word (starts_with nat_eq bs word) refl).0 h

-- one byte behind blanks
abbrev ByteBehind : ℕ → ℕ → List ℕ → Type 0
ByteBehind b from bs = (blanks : List ℕ) × (drop from bs ≡ blanks ++ b ∷ drop (byte_behind b from bs) bs) × AreAll is_blank blanks × (byte_behind b from bs ≡ from + length blanks + 1)

byte_of : (b from : ℕ) (bs : List ℕ) → (byte_behind b from bs == 0) ≡ false → ByteBehind b from bs
byte_of b from bs h = by (starts_with nat_eq (drop at bs) (b ∷ [])) refl h where
  n : ℕ
  n = blank_len (drop from bs)

  at : ℕ
  at = from + blank_len (drop from bs)

  by : (c : Bool) → starts_with nat_eq (drop (from + blank_len (drop from bs)) bs) (b ∷ []) ≡ c → (cond c (from + blank_len (drop from bs) + 1) 0 == 0) ≡ false → ByteBehind b from bs
  by false e g = absurd (no_truth (sym g))
  by true e g =
      let d = drop from bs in
      let k = blank_len d in
      let r = blanks_of d in
      let value : byte_behind b from bs ≡ from + k + 1 = ap (λ c. cond c (from + k + 1) 0) e in
      let rest = starts (drop (from + k) bs) (b ∷ []) e in
      let moved : drop k d ≡ drop (from + k) bs = drop-drop k from bs in
      let behind : drop 1 (drop (from + k) bs) ≡ drop (byte_behind b from bs) bs = drop-drop 1 (from + k) bs ∙ ap (λ m. drop m bs) (sym value) in
      (r.0, r.1 ∙ ap (λ l. r.0 ++ l) (moved ∙ rest ∙ ap (λ l. b ∷ l) behind), r.2, value ∙ ap (λ m. from + m + 1) (sym r.3))

-- a whole header in front
abbrev HeaderOf : List ℕ → Type 0
HeaderOf bs = (head : List ℕ) × (bs ≡ head ++ drop (header_len bs) bs) × IsHeader head × (length head ≡ header_len bs)

zero_not : (two : ℕ) (x : ℕ) → (cond (two == 0) 0 x == 0) ≡ false → (two == 0) ≡ false
zero_not two x h = by (two == 0) h where
  by : (c : Bool) → (cond c 0 x == 0) ≡ false → c ≡ false
  by true g = absurd (no_truth (sym g))
  by false g = refl

header_of : (bs : List ℕ) → (header_len bs == 0) ≡ false → HeaderOf bs
unfolding header_len
header_of bs h = by (starts_with nat_eq bs (codes "version")) refl h where
  two : ℕ
  two = byte_behind 50 7 bs

  by : (c : Bool) → starts_with nat_eq bs (codes "version") ≡ c → (cond c (let m = byte_behind 50 7 bs in cond (m == 0) 0 (byte_behind 59 m bs)) 0 == 0) ≡ false → HeaderOf bs
  by false e g = absurd (no_truth (sym g))
  by true e g =
      let m = byte_behind 50 7 bs in
      let k = byte_behind 59 m bs in
      let some = zero_not m k g in
      let value : header_len bs ≡ k = ap (λ c. cond c (cond (m == 0) 0 k) 0) e ∙ ap (λ c. cond c 0 k) some in
      let word = starts bs (codes "version") e in
      let a = byte_of 50 7 bs some in
      let z = byte_of 59 m bs (ap (λ y. y == 0) (sym (ap (λ c. cond c 0 k) some)) ∙ g) in
      let text = word ∙ ap (λ l. codes "version" ++ l) (a.1 ∙ ap (λ l. a.0 ++ 50 ∷ l) z.1) ∙ sym (regrouped [] a.0 z.0 (drop k bs)) in
      let head = codes "version" ++ (a.0 ++ 50 ∷ (z.0 ++ 59 ∷ [])) in
      let l1 = length-append a.0 (50 ∷ (z.0 ++ 59 ∷ [])) in
      let l2 = length-append z.0 (59 ∷ []) in
      let v1 = a.3 in
      let v2 = z.3 in
      (head, text ∙ ap (λ l. head ++ drop l bs) (sym value), ([], a.0, z.0, refl, tt, a.2, z.2), (let q : length head ≡ k = omega (arith, l1, l2, v1, v2) in q) ∙ sym value)

-- the machine behind what counts as blank

and_false : (c : Bool) → (c && false) ≡ false
and_false true = refl
and_false false = refl

-- after a header: from where the second version starts
second_start : (number : ℕ) → start number true ≡ Behind number none_built
second_start number = ap (λ c. going (scan_at number true (wants.Block c) 0 0) none_built idle) (and_false (nat_lt number 2))

-- what is held behind some bytes leads where what is held leads
abbrev SameEnd : Held → Held → Type 0
SameEnd g h = (outcome g ≡ outcome h) × (g.place + length g.bytes ≡ h.place + length h.bytes) × (g.number ≡ h.number) × (g.finished ≡ h.finished)

answered_same : (q : State) (g h : Held) → g.place + length g.bytes ≡ h.place + length h.bytes → g.number ≡ h.number → g.finished ≡ h.finished → answer_at q g ≡ answer_at q h
answered_same (going s b p) g h e n f = ap (λ c. cond c (at_end s p (g.place + length g.bytes)) need) f ∙ ap (λ m. cond h.finished (at_end s p m) need) e
answered_same (malformed place) g h e n f = refl
answered_same (over place) g h e n f = refl
answered_same (whole end s b) g h e n f = ap (λ m. block m (last_tree b.trees)) n

same_answer : (g h : Held) → SameEnd g h → answer_of g ≡ answer_of h
same_answer g h s = ap (λ q. answer_at q g) s.0 ∙ answered_same (outcome h) g h s.1 s.2 s.3

abbrev behind_blanks : Held → List ℕ
behind_blanks h = drop (blank_len h.bytes) h.bytes

abbrev only_behind : Held → Held
only_behind h = record h { bytes = behind_blanks h; place = h.place + blank_len h.bytes }

-- how many bytes count as blank where a header is among them
abbrev all_blank : Held → ℕ
all_blank h = blank_len h.bytes + header_len (behind_blanks h) + blank_len (drop (header_len (behind_blanks h)) (behind_blanks h))

abbrev behind_all : Held → Held
behind_all h = record h { bytes = drop (all_blank h) h.bytes; place = h.place + all_blank h; second = true }

-- behind blanks
only_blanks : (h : Held) → SameEnd (only_behind h) h
only_blanks h =
    let r = blanks_of h.bytes in
    let rest = drop (blank_len h.bytes) h.bytes in
    let read = ap (after h.place (start h.number h.second)) r.1 ∙ blanks_read r.0 rest h.place (Start h) none_built r.2 ∙ ap (λ m. after (h.place + m) (start h.number h.second) rest) r.3 in
    let len = ap length r.1 ∙ length-append r.0 rest in
    let n = r.3 in
    (sym read, omega (arith, len, n), refl, refl)

-- behind blanks, a header and blanks
with_header : (h : Held) → may_begin h ≡ true → (header_len (behind_blanks h) == 0) ≡ false → SameEnd (behind_all h) h
with_header h may some =
    let r = blanks_of h.bytes in
    let b = blank_len h.bytes in
    let rest = drop b h.bytes in
    let g = header_of rest some in
    let k = header_len rest in
    let more = drop k rest in
    let r2 = blanks_of more in
    let b2 = blank_len more in
    let last = drop b2 more in
    let f = may_parts (nat_lt h.number 2) h.second may in
    let dropped : drop (b + k + b2) h.bytes ≡ last = sym (drop-drop b2 (b + k) h.bytes) ∙ ap (drop b2) (sym (drop-drop k b h.bytes)) in
    let read =
    ap (after h.place (start h.number h.second)) r.1 ∙ blanks_read r.0 rest h.place (Start h) none_built r.2
    ∙ ap (after (h.place + length r.0) (start h.number h.second)) g.1
    ∙ ap (λ q. after (h.place + length r.0) q (g.0 ++ more)) (first_start h.number h.second f.0 f.1)
    ∙ header_taken h.number none_built g.0 more (h.place + length r.0) g.2
    ∙ ap (after (h.place + length r.0 + length g.0) (Behind h.number none_built)) r2.1
    ∙ blanks_read r2.0 last (h.place + length r.0 + length g.0) (scan_at h.number true (wants.Block false) 0 0) none_built r2.2 in
    let n1 = r.3 in
    let n2 = g.3 in
    let n3 = r2.3 in
    let spot : h.place + length r.0 + length g.0 + length r2.0 ≡ h.place + (b + k + b2) = omega (arith, n1, n2, n3) in
    let l1 = ap length r.1 ∙ length-append r.0 rest in
    let l2 = ap length g.1 ∙ length-append g.0 more in
    let l3 = ap length r2.1 ∙ length-append r2.0 last in
    let l4 = ap length dropped in
    (ap (after (h.place + (b + k + b2)) (start h.number true)) dropped ∙ ap (λ q. after (h.place + (b + k + b2)) q last) (second_start h.number) ∙ ap (λ m. after m (Behind h.number none_built) last) (sym spot) ∙ sym read, omega (arith, n1, n2, n3, l1, l2, l3, l4), refl, refl) where
      may_parts : (a second : Bool) → (a && not second) ≡ true → (a ≡ true) × (second ≡ false)
      may_parts true false e = (refl, refl)
      may_parts true true e = absurd (no_truth e)
      may_parts false second e = absurd (no_truth e)

none_past : (k : ℕ) (g h : Held) → answer_of g ≡ answer_of h → answer_of (cond (k == 0) h g) ≡ answer_of h
none_past k g h e = by (k == 0) where
  by : (c : Bool) → answer_of (cond c h g) ≡ answer_of h
  by true = refl
  by false = e

plain_same : (h : Held) → answer_of (past (blank_len h.bytes, false) h) ≡ answer_of h
plain_same h = none_past (blank_len h.bytes) (only_behind h) h (same_answer (only_behind h) h (only_blanks h))

pub trailing-same : (h : Held) → answer_of (past_blanks h) ≡ answer_of h
trailing-same h = by (may_begin h) refl where
  by_len : (c : Bool) → may_begin h ≡ true → (header_len (behind_blanks h) == 0) ≡ c → answer_of (past (cond c (blank_len h.bytes, false) (all_blank h, true)) h) ≡ answer_of h
  by_len true m e = plain_same h
  by_len false m e = none_past (all_blank h) (behind_all h) h (same_answer (behind_all h) h (with_header h m e))

  by : (c : Bool) → may_begin h ≡ c → answer_of (past (front_len c h.bytes) h) ≡ answer_of h
  by true m = by_len (header_len (behind_blanks h) == 0) m refl
  by false m = plain_same h
