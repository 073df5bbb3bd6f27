-- What isn't blank in front settles the rest once no more is needed: a text that a header goes on from is one that needs more.
use Rattle.std.proofs.Common.{◌≡◌, ◌∙◌, ℕ, ◌+◌, ◌-◌, ◌<◌, ◌≤◌, Bool, true, false, cond, List, [], ◌∷◌, ◌++◌, length, take, drop, refl, sym, ap, subst, arith, inl, inr, length-append, length-drop, length-take}
use Rattle.std.specs.Prelude.{Option, Some, None, ◌==◌}
use Rattle.std.proofs.lemmas.Bool.{false≢true}
use Rattle.std.proofs.lemmas.List.{drop-drop, take-append-drop, nil_from_length, append_assoc}
use Rattle.cert_text.specs.Blank.{blank_len, header_len, may_begin, past_blanks, first_place}
use Rattle.cert_text.specs.Reading.{State, going, malformed, over, whole, after, start}
use Rattle.cert_text.specs.Answer.{Answer, block, need, no_more, malformed_at, limit_at, at_end}
use Rattle.cert_text.specs.Held.{Held, outcome, answer_of, answer_at, taken_from}
use Rattle.cert_laws.specs.Laws.{closed, AnswersStay, TrailingIsBlank}
use Rattle.st_certificate.specs.Tree.{Tree}
use Rattle.certificate_batches.specs.Turns.{trailing, AreDropped, is_need}
use Rattle.certificate_batches.proofs.Blanks.{more_than_none, nonblank, first_nonblank, place_of, moved, trailing_is, place_is_settled}
use Rattle.certificate_batches.proofs.Headers.{is_some, none_behind, none_then, header_reaches, header_within}
use Rattle.certificate_batches.proofs.Taking.{kept}
use Rattle.certificate_batches.proofs.Fronts.{none_is, trailing_fronted, place_skipped, only, header_too, all_blank, behind_header, none_may, front_dropped}

-- ---- an open text has no end
open_goes : (s : State) (h : Held) → h.finished ≡ false → answer_at s h ≡ no_more → ⊥
open_goes (going scan built pending) h e f = let here : answer_at (going scan built pending) h ≡ need = ap (λ (c : Bool). cond c (at_end scan pending (h.place + length h.bytes)) need) e in cc
open_goes (malformed place) h e f = cc
open_goes (over place) h e f = cc
open_goes (whole end scan built) h e f = cc

-- and a finished one of which nothing is left is at its end
at_its_end : (h : Held) → h.bytes ≡ [] → h.finished ≡ true → answer_of h ≡ no_more
at_its_end h e f =
    ap (λ (bs : List ℕ). answer_at (after h.place (start h.number h.second) bs) h) e ∙ ap (λ (c : Bool). cond c no_more need) f

-- ---- bytes which a header continues
module _ (stay : AnswersStay) (blank : TrailingIsBlank) (h : Held) (unended : h.finished ≡ false) (may : may_begin h ≡ true) (none : blank_len h.bytes ≡ 0) (some : 0 < length h.bytes) where
  -- as far as the header
  ended : (s : List ℕ) → header_len (h.bytes ++ s) ≡ length (h.bytes ++ s) → answer_of (closed h s) ≡ no_more
  ended s size =
      let g = closed h s in
      let bs = h.bytes ++ s in
      let first : blank_len bs ≡ 0 = none_then h.bytes s none some in
      let long : 0 < length bs = omega (arith, some, length-append h.bytes s) in
      let found : (header_len (drop (blank_len bs) bs) == 0) ≡ false = ap (λ (n : ℕ). header_len (drop n bs) == 0) first ∙ is_some (header_len bs) (omega (arith, size, long)) in
      let reach : length bs ≤ all_blank g may = omega (arith, size, ap (λ (n : ℕ). header_len (drop n bs)) first) in
      let empty : drop (all_blank g may) bs ≡ [] = nil_from_length (drop (all_blank g may) bs) (omega (arith, reach, length-drop (all_blank g may) bs)) in
      sym (blank g) ∙ ap answer_of (header_too g may found) ∙ at_its_end (behind_header g may) empty refl

  pub header_needs : (rest : List ℕ) → length h.bytes < header_len (h.bytes ++ rest) → (answer_of h ≡ need → ⊥) → ⊥
  header_needs rest beyond settled =
      let l = h.bytes in
      let y = header_len (l ++ rest) in
      let n = y - length l in
      let s = take n rest in
      let more = drop n rest in
      let within = header_within (l ++ rest) in
      let all : (l ++ s) ++ more ≡ l ++ rest = append_assoc l s more ∙ ap (λ (x : List ℕ). l ++ x) (take-append-drop n rest) in
      let size : length (l ++ s) ≡ y = omega (arith, beyond, within, length-append l rest, length-append l s, length-take n rest) in
      let found : header_len ((l ++ s) ++ more) ≡ y = ap header_len all in
      let here : header_len (l ++ s) ≡ length (l ++ s) = elim (header_reaches (l ++ s) more) [ inl e ↦ sym e ∙ found ∙ sym size | inr e ↦ absurd (omega (arith, e.1, found, size)) ] in
      let same = (stay h s (λ e. absurd (false≢true (sym unended ∙ e))) settled).answer in
      open_goes (outcome h) h unended (sym same ∙ ended s here)

-- ---- what isn't blank
place_parts : (p : ℕ) (bs : List ℕ) (q : ℕ) → place_of p bs ≡ Some q → (0 < length bs) × (p ≡ q)
place_parts p [] q e = absurd (let f : place_of p [] ≡ None = refl in cc)
place_parts p (b ∷ bs) q e =
    let here : Some p ≡ Some q = sym (ap (λ (c : Bool). cond c None (Some p)) (more_than_none (length bs))) ∙ e in
    (omega arith, let same : p ≡ q = cc in same)

nonblank_first : (p : ℕ) (bs rest : List ℕ) → blank_len bs ≡ 0 → 0 < length bs → nonblank p (bs ++ rest) ≡ Some p
nonblank_first p bs rest none some = by bs none some where
  by : (bs : List ℕ) → blank_len bs ≡ 0 → 0 < length bs → nonblank p (bs ++ rest) ≡ Some p
  by [] none some = absurd (omega (arith, some))
  by (b ∷ bs) none some = first_nonblank p b bs rest none

module _ (stay : AnswersStay) (blank : TrailingIsBlank) (h : Held) (place : ℕ) (unended : h.finished ≡ false) (settled : answer_of (past_blanks h) ≡ need → ⊥) (is : first_place (past_blanks h) ≡ Some place) (rest : List ℕ) where
  l : List ℕ
  l = drop (blank_len h.bytes) h.bytes

  without : may_begin h ≡ true → (header_len (drop (blank_len h.bytes) h.bytes) == 0) ≡ true → trailing h rest ≡ Some place
  without may whole_none =
      let g = moved h (blank_len h.bytes) in
      let now : past_blanks h ≡ g = only h may whole_none in
      let there = place_parts g.place g.bytes place (sym (ap first_place now) ∙ is) in
      let first = none_behind h.bytes in
      let zero = none_is (header_len g.bytes) whole_none in
      let header : header_len (g.bytes ++ rest) ≡ 0 = elim (header_reaches g.bytes rest) [
        | inl e ↦ e ∙ zero
        | inr e ↦ absurd (header_needs stay blank g unended may first there.0 rest e.1 (λ f. settled (ap answer_of now ∙ f)))
      ] in
      sym ((front_dropped h).same rest) ∙ ap (λ (x : Held). trailing x rest) now ∙ trailing_fronted g rest may
      ∙ place_skipped g.place (g.bytes ++ rest) (none_then g.bytes rest first there.0) header (omega (arith, there.0, length-append g.bytes rest)) ∙ ap Some there.1

  with_header : may_begin h ≡ true → (header_len (drop (blank_len h.bytes) h.bytes) == 0) ≡ false → trailing h rest ≡ Some place
  with_header may found =
      let g = behind_header h may in
      let now : past_blanks h ≡ g = header_too h may found in
      let there = place_parts g.place g.bytes place (sym (ap first_place now) ∙ is) in
      let n = blank_len h.bytes in
      let k = header_len (drop n h.bytes) in
      let more = drop k (drop n h.bytes) in
      let bytes : g.bytes ≡ drop (blank_len more) more = sym (drop-drop (blank_len more) (n + k) h.bytes) ∙ ap (drop (blank_len more)) (sym (drop-drop k n h.bytes)) in
      sym ((front_dropped h).same rest) ∙ ap (λ (x : Held). trailing x rest) now ∙ trailing_is g rest (none_may h may)
      ∙ nonblank_first g.place g.bytes rest (ap blank_len bytes ∙ none_behind more) there.0 ∙ ap Some there.1

  pub front_settled : trailing h rest ≡ Some place
  front_settled = by (may_begin h) refl where
    header : (c : Bool) → may_begin h ≡ true → (header_len (drop (blank_len h.bytes) h.bytes) == 0) ≡ c → trailing h rest ≡ Some place
    header true may e = without may e
    header false may e = with_header may e

    by : (c : Bool) → may_begin h ≡ c → trailing h rest ≡ Some place
    by true may = header (header_len (drop (blank_len h.bytes) h.bytes) == 0) may refl
    by false may = place_is_settled h (past_blanks h) (Some place) may refl (sym is) rest

-- ---- what a reader comes to
pub front_needs : (h mid now : Held) → mid ≡ past_blanks h → answer_of mid ≡ need → now ≡ taken_from mid → AreDropped h now
front_needs h mid now left is taken =
    subst (AreDropped h) (sym (taken ∙ kept mid need is need_no_block ∙ left)) (front_dropped h) where
      need_no_block : (n : ℕ) (t : Tree) → need ≡ block n t → ⊥
      need_no_block n t e = cc

pub front_told : AnswersStay → TrailingIsBlank → (h mid : Held) (o : Option ℕ) (place : ℕ) (a : Answer) → h.finished ≡ false → mid ≡ past_blanks h → o ≡ first_place mid → o ≡ Some place
    → answer_of mid ≡ a → (a ≡ need → ⊥) → (rest : List ℕ) → trailing h rest ≡ Some place
front_told stay blank h mid o place a unended left is some answer settled rest =
    front_settled stay blank h place unended (λ e. settled (sym answer ∙ ap answer_of left ∙ e)) (sym (ap first_place left) ∙ sym is ∙ some) rest

pub need_is : (a : Answer) → is_need a ≡ true → a ≡ need
need_is need e = refl
need_is (block n t) e = absurd (false≢true e)
need_is no_more e = absurd (false≢true e)
need_is (malformed_at place) e = absurd (false≢true e)
need_is (limit_at place) e = absurd (false≢true e)

pub no_need_is : (a : Answer) → is_need a ≡ false → a ≡ need → ⊥
no_need_is a e f = false≢true (sym e ∙ ap is_need f)
