-- Where only blanks are left: nothing stands behind what counts as blank.
use Rattle.std.proofs.Common.{◌≡◌, ℕ, suc, ◌+◌, ◌^◌, ◌<◌, Bool, true, false, cond, ◌&&◌, ◌||◌, not, List, [], ◌∷◌, ◌++◌, length, drop, refl, sym, ap, ◌∙◌, arith, codes, nat_eq, ◌==◌, one-add}
use Rattle.std.specs.Prelude.{Some, None}
use Rattle.std.specs.List.{starts_with}
use Rattle.std.proofs.lemmas.List.{drop-drop, nil_from_length}
use Rattle.std.proofs.lemmas.Bool.Decides.{nat_tests}
use Rattle.cert_text.specs.Letters.{is_blank}
use Rattle.cert_text.specs.Blank.{blank_len, byte_behind, header_len, front_len, past, may_begin, past_blanks, first_place}
use Rattle.cert_text.specs.Answer.{no_more}
use Rattle.cert_text.specs.Held.{Held, answer_of}
use Rattle.cert_laws.specs.Spelled.{AreAll, IsFront}
use Rattle.cert_laws.specs.Refused.{IsBlankOnly}
use Rattle.cert_laws.proofs.HeaderRead.{regrouped}
use Rattle.cert_laws.proofs.Trailing.{trailing-same}
use Rattle.cert_laws.proofs.Answers.{end_is_true}

-- blanks and then a byte that isn't blank
blanks_before : (bs : List ℕ) (x : ℕ) (more : List ℕ) → AreAll is_blank bs → is_blank x ≡ false → blank_len (bs ++ x ∷ more) ≡ length bs
blanks_before [] x more h other = ap (λ c. cond c (1 + blank_len more) 0) other
blanks_before (b ∷ bs) x more h other = ap (λ c. cond c (1 + blank_len (bs ++ x ∷ more)) 0) h.0 ∙ one-add (blank_len (bs ++ x ∷ more)) ∙ ap suc (blanks_before bs x more h.1 other)

all_blanks : (bs : List ℕ) → AreAll is_blank bs → blank_len bs ≡ length bs
all_blanks [] h = refl
all_blanks (b ∷ bs) h = ap (λ c. cond c (1 + blank_len bs) 0) h.0 ∙ one-add (blank_len bs) ∙ ap suc (all_blanks bs h.1)

drop_front : (xs ys : List ℕ) → drop (length xs) (xs ++ ys) ≡ ys
drop_front [] ys = refl
drop_front (x ∷ xs) ys = drop_front xs ys

drop_whole : (xs : List ℕ) → drop (length xs) xs ≡ []
drop_whole [] = refl
drop_whole (x ∷ xs) = drop_whole xs

-- one byte behind blanks is found
module _ (b from : ℕ) (bs blanks more : List ℕ) (is : drop from bs ≡ blanks ++ b ∷ more) (all : AreAll is_blank blanks) (other : is_blank b ≡ false) (here : starts_with nat_eq (b ∷ more) (b ∷ []) ≡ true) where
  pub byte_found : byte_behind b from bs ≡ from + length blanks + 1
  byte_found =
      let len : blank_len (drop from bs) ≡ length blanks = ap blank_len is ∙ blanks_before blanks b more all other in
      let there : drop (from + blank_len (drop from bs)) bs ≡ b ∷ more =
      ap (λ n. drop (from + n) bs) len ∙ sym (drop-drop (length blanks) from bs) ∙ ap (drop (length blanks)) is ∙ drop_front blanks (b ∷ more) in
      let test : starts_with nat_eq (drop (from + blank_len (drop from bs)) bs) (b ∷ []) ≡ true = ap (λ l. starts_with nat_eq l (b ∷ [])) there ∙ here in
      ap (λ c. cond c (from + blank_len (drop from bs) + 1) 0) test ∙ ap (λ n. from + n + 1) len

  pub byte_left : drop (from + length blanks + 1) bs ≡ more
  byte_left =
      let sum : from + length blanks + 1 ≡ from + (length blanks + 1) = omega arith in
      ap (λ n. drop n bs) sum ∙ sym (drop-drop (length blanks + 1) from bs) ∙ ap (drop (length blanks + 1)) is ∙ sym (drop-drop 1 (length blanks) (blanks ++ b ∷ more))
      ∙ ap (drop 1) (drop_front blanks (b ∷ more))

-- a header is found, and has its length
record Header (bs more : List ℕ) : Type 0 where
  some : (header_len bs == 0) ≡ false
  left : drop (header_len bs) bs ≡ more

not_zero : (n : ℕ) → (n + 1 == 0) ≡ false
not_zero n = grind (arith, nat_tests)

zero_is : (n : ℕ) → (n == 0) ≡ true → n ≡ 0
zero_is n e = grind (arith, nat_tests)

header_found : (between behind more : List ℕ) → AreAll is_blank between → AreAll is_blank behind
    → Header (codes "version" ++ (between ++ 50 ∷ (behind ++ 59 ∷ more))) more
unfolding header_len
header_found between behind more a z =
    let bs = codes "version" ++ (between ++ 50 ∷ (behind ++ 59 ∷ more)) in
    let two : byte_behind 50 7 bs ≡ 7 + length between + 1 = byte_found 50 7 bs between (behind ++ 59 ∷ more) refl a refl refl in
    let rest : drop (7 + length between + 1) bs ≡ behind ++ 59 ∷ more = byte_left 50 7 bs between (behind ++ 59 ∷ more) refl a refl refl in
    let m = 7 + length between + 1 in
    let end : byte_behind 59 m bs ≡ m + length behind + 1 = byte_found 59 m bs behind more rest z refl refl in
    let value : header_len bs ≡ m + length behind + 1 =
    ap (λ k. cond (k == 0) 0 (byte_behind 59 k bs)) two ∙ ap (λ c. cond c 0 (byte_behind 59 m bs)) (not_zero (7 + length between)) ∙ end in
    record {
      some = ap (λ k. k == 0) value ∙ not_zero (m + length behind);
      left = ap (λ k. drop k bs) value ∙ byte_left 59 m bs behind more rest z refl refl;
    }

-- what is dropped in front
past_bytes : (front : ℕ × Bool) (h : Held) → (past front h).bytes ≡ drop front.0 h.bytes
past_bytes front h = by (front.0 == 0) refl where
  by : (c : Bool) → (front.0 == 0) ≡ c → (cond c h (record h { bytes = drop front.0 h.bytes; place = h.place + front.0; second = front.1 || h.second })).bytes ≡ drop front.0 h.bytes
  by true e = ap (λ n. drop n h.bytes) (sym (zero_is front.0 e))
  by false e = refl

past_finished : (front : ℕ × Bool) (h : Held) → (past front h).finished ≡ h.finished
past_finished front h = by (front.0 == 0) where
  by : (c : Bool) → (cond c h (record h { bytes = drop front.0 h.bytes; place = h.place + front.0; second = front.1 || h.second })).finished ≡ h.finished
  by true = refl
  by false = refl

-- the front of blanks alone
no_header : (may : Bool) → cond may (header_len []) 0 ≡ 0
unfolding header_len
no_header true = refl
no_header false = refl

blank_front : (may : Bool) (bs : List ℕ) → AreAll is_blank bs → drop (front_len may bs).0 bs ≡ []
blank_front may bs all =
    let len = all_blanks bs all in
    let rest : drop (blank_len bs) bs ≡ [] = ap (λ n. drop n bs) len ∙ drop_whole bs in
    let none : cond may (header_len (drop (blank_len bs) bs)) 0 ≡ 0 = ap (λ r. cond may (header_len r) 0) rest ∙ no_header may in
    ap (λ n. drop (cond {A = ℕ × Bool} (n == 0) (blank_len bs, false) (blank_len bs + n + blank_len (drop n (drop (blank_len bs) bs)), true)).0 bs) none ∙ rest

-- blanks, a header and blanks
header_front : (front rest more : List ℕ) (v : ℕ) (word : List ℕ) → rest ≡ v ∷ word → is_blank v ≡ false → AreAll is_blank front → Header rest more → AreAll is_blank more
    → drop (front_len true (front ++ rest)).0 (front ++ rest) ≡ []
header_front front rest more v word is other all head blank =
    let bs = front ++ rest in
    let len : blank_len bs ≡ length front = ap (λ r. blank_len (front ++ r)) is ∙ blanks_before front v word all other in
    let behind : drop (blank_len bs) bs ≡ rest = ap (λ n. drop n bs) len ∙ drop_front front rest in
    let k = header_len rest in
    let by_rest : front_len true bs ≡ cond (k == 0) (blank_len bs, false) (blank_len bs + k + blank_len (drop k rest), true) =
    ap (λ r. cond (header_len r == 0) (blank_len bs, false) (blank_len bs + header_len r + blank_len (drop (header_len r) r), true)) behind in
    let value : (front_len true bs).0 ≡ length front + k + length more =
    ap (λ p. p.0) by_rest ∙ ap (λ c. (cond {A = ℕ × Bool} c (blank_len bs, false) (blank_len bs + k + blank_len (drop k rest), true)).0) head.some
    ∙ ap (λ n. n + k + blank_len (drop k rest)) len ∙ ap (λ r. length front + k + blank_len r) head.left ∙ ap (λ n. length front + k + n) (all_blanks more blank) in
    let sum : length front + k + length more ≡ length front + (k + length more) = omega arith in
    ap (λ n. drop n bs) (value ∙ sum) ∙ sym (drop-drop (k + length more) (length front) bs) ∙ ap (drop (k + length more)) (drop_front front rest)
    ∙ sym (drop-drop (length more) k rest) ∙ ap (drop (length more)) head.left ∙ drop_whole more

none_left : (g : Held) → g.bytes ≡ [] → first_place g ≡ None
none_left g is = ap (λ l. cond (length l == 0) None (Some g.place)) is

-- only blanks are left
pub blank_ends : (h : Held) → IsBlankOnly h → first_place (past_blanks h) ≡ None
blank_ends h (header, head, blanks, split, front, all) = by header front split where
  by : (c : Bool) → IsFront c h head → h.bytes ≡ head ++ blanks → first_place (past_blanks h) ≡ None
  by false f s =
      let bytes : h.bytes ≡ blanks = s ∙ ap (λ l. l ++ blanks) f in
      none_left (past_blanks h) (past_bytes (front_len (may_begin h) h.bytes) h ∙ ap (λ bs. drop (front_len (may_begin h) bs).0 bs) bytes ∙ blank_front (may_begin h) blanks all)
  by true f s =
      let head_is = f.2 in
      let word = head_is.1 ++ 50 ∷ (head_is.2 ++ 59 ∷ blanks) in
      let may : may_begin h ≡ true = ap (λ c. c && not h.second) f.0 ∙ ap not f.1 in
      let bytes : h.bytes ≡ head_is.0 ++ (codes "version" ++ word) = s ∙ ap (λ l. l ++ blanks) head_is.3 ∙ regrouped head_is.0 head_is.1 head_is.2 blanks in
      none_left (past_blanks h) (
      past_bytes (front_len (may_begin h) h.bytes) h ∙ ap (λ c. drop (front_len c h.bytes).0 h.bytes) may ∙ ap (λ bs. drop (front_len true bs).0 bs) bytes
      ∙ header_front head_is.0 (codes "version" ++ word) blanks 118 (codes "ersion" ++ word) refl refl head_is.4 (header_found head_is.1 head_is.2 blanks head_is.5 head_is.6) all
      )

-- nothing is left behind blanks
empty_at : (place number : ℕ) (second : Bool) → answer_of (record { bytes = []; place = place; number = number; second = second; finished = true }) ≡ no_more
empty_at place number second = refl

empty_ends : (g : Held) → g.bytes ≡ [] → g.finished ≡ true → answer_of g ≡ no_more
empty_ends g empty finished = ap (λ l. answer_of (record g { bytes = l })) empty ∙ ap (λ f. answer_of (record g { bytes = []; finished = f })) finished ∙ empty_at g.place g.number g.second

no_place : (g : Held) → first_place g ≡ None → g.bytes ≡ []
no_place g is = by (length g.bytes == 0) refl where
  by : (c : Bool) → (length g.bytes == 0) ≡ c → g.bytes ≡ []
  by true e = nil_from_length g.bytes (zero_is (length g.bytes) e)
  by false e = let some : first_place g ≡ Some g.place = ap (λ c. cond c None (Some g.place)) e in cc

pub ends_blank : (h : Held) → h.number < 2 ^ 32 → h.finished ≡ true → first_place (past_blanks h) ≡ None → IsBlankOnly h
ends_blank h room finished none =
    let g = past_blanks h in
    let ended : answer_of g ≡ no_more = empty_ends g (no_place g none) (past_finished (front_len (may_begin h) h.bytes) h ∙ finished) in
    (end_is_true h room (sym (trailing-same h) ∙ ended)).1
