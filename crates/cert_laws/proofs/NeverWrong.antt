-- A text of the next block, limits aside, is never refused as wrong: it is read whole, or refused at its first token that passes
-- a limit. So nothing that is refused as wrong begins such a text.
use Rattle.std.proofs.Common.{◌≡◌, ℕ, ◌+◌, ◌<◌, ◌^◌, Bool, true, false, ◌||◌, ◌⊎◌, inl, inr, List, [], ◌∷◌, ◌++◌, length, refl, sym, ap, ◌∙◌, subst, arith, append_assoc}
use Rattle.std.proofs.lemmas.List.{length-append}
use Rattle.cert_text.specs.declared.scan.Word.TheVariants as words
use Rattle.cert_text.specs.declared.scan.Token.{Token}
use Rattle.cert_text.specs.declared.scan.Token.TheVariants as tokens
use Rattle.cert_text.specs.declared.scan.Want.TheVariants as wants
use Rattle.cert_text.specs.declared.scan.Scan.{Scan}
use Rattle.cert_text.specs.declared.scan.Given.TheVariants as givens
use Rattle.cert_text.specs.Control.{give}
use Rattle.cert_text.specs.Letters.{is_blank}
use Rattle.cert_text.specs.Tree.{Built, applied}
use Rattle.cert_text.specs.Reading.{State, going, malformed, over, whole, idle, after, start, is_whole}
use Rattle.cert_text.specs.Run.{Run, on, wrong, passed, run, scan_at}
use Rattle.cert_text.specs.Grammar.{Written, IsProper, block_tokens, tree_tokens, tree_over}
use Rattle.cert_text.specs.Held.{Held}
use Rattle.cert_text.proofs.Stopping.{stopped_after, after-append}
use Rattle.cert_laws.specs.Spelled.{AreAll, IsSpelling, EndsAt, Spells, IsFront}
use Rattle.cert_laws.specs.Limits.{block_marks}
use Rattle.cert_laws.specs.Refused.{IsFirstMarked, HasNoMark, IsNext, Begins}
use Rattle.cert_laws.proofs.Givens.{is_inside, OnlyOn}
use Rattle.cert_laws.proofs.Lexing.{blanks_read}
use Rattle.cert_laws.proofs.BlockRead.{regrouped, whole_is, block_tokens_read, first_byte}
use Rattle.cert_laws.proofs.HeaderRead.{header_taken, first_start, Behind}
use Rattle.cert_laws.proofs.Stays.{Stays, stays}
use Rattle.cert_laws.proofs.Follows.{as_read, Follows, IsQuiet}
use Rattle.cert_laws.proofs.LastToken.{last_is}
use Rattle.cert_laws.proofs.MarksLimits.{marks-limits}
use Rattle.cert_laws.proofs.Begun.{first_of, none_built, joins_more}
use Rattle.cert_laws.proofs.TreeFollows.{block_follows}
use Rattle.cert_laws.proofs.TokenReads.{token_over}
use Rattle.cert_laws.proofs.Forward.{SpelledTo, IsSome, some_behind, reads_block, Marked, find, run_all, run_marked, first_taken}

no_truth : false ≡ true → ⊥
no_truth h = cc

-- from inside of a block a run stays inside of it
run_stays : (ts : List Token) (scan : Scan) (built : Built) (s : Scan) (b : Built) → is_inside scan.want ≡ true → run ts scan built ≡ on s b → Stays scan s
run_stays [] scan built s b i r = (ap (λ q. (scan_in q).number) (sym r), ap (λ q. (scan_in q).second) (sym r), ap (λ q. is_inside (scan_in q).want) (sym r) ∙ i) where
  scan_in : Run → Scan
  scan_in (on t c) = t
  scan_in wrong = scan
  scan_in passed = scan
run_stays (t ∷ ts) scan built s b i r =
    let k = first_taken (give scan t) t ts scan built s b refl r in
    let st = subst (OnlyOn (Stays scan)) k.2 (stays scan.want scan t i) in
    let more = run_stays ts k.0 (applied k.1 built) s b st.2 k.3 in
    (more.0 ∙ st.0, more.1 ∙ st.1, more.2)

-- what is whole refuses each token as wrong
over_going : (w : Bool) (s : Scan) (t : Token) → is_whole s.want ≡ w → give s t ≡ givens.Over → w ≡ false
over_going false s t e g = refl
over_going true s t e g = absurd (apart (ap (λ want. give (record s { want = want }) t) (sym (whole_is s.want e)) ∙ g)) where
  apart : givens.Wrong ≡ givens.Over → ⊥
  apart q = cc

abbrev head_in : Token → List Token → Token
head_in t [] = t
head_in t (u ∷ us) = u

-- up to the first token that passes a limit
pub block_over : (number : ℕ) (second header : Bool) (w : Written) (before : List Token) (t : Token) (us : List Token) (bs blanks cs : List ℕ) (x : ℕ) (rest : List ℕ) (at : ℕ) → number < 2 ^ 32 → IsProper second w → block_tokens number w [] ≡ before ++ t ∷ us → IsFirstMarked before (block_marks w) → SpelledTo bs before (blanks ++ (cs ++ x ∷ rest)) → AreAll is_blank blanks → IsSpelling cs t → EndsAt t (x ∷ rest) → after at (going (scan_at number second (wants.Block header) 0 0) none_built idle) (bs ++ (blanks ++ (cs ++ x ∷ rest))) ≡ over (at + length bs + length blanks)
block_over number second header w [] t us bs blanks cs x rest at n p e m h c sp f = absurd (no_truth m)
block_over number second header w (v ∷ before) t us bs blanks cs x rest at n p e m h c sp f =
    let scan = scan_at number second (wants.Block header) 0 0 in
    let follows = subst (λ ts. Follows ts (block_marks w) scan) e (block_follows number second header w (wider number n) p) in
    let r = run_marked (v ∷ before) t us (block_marks w) scan none_built follows m in
    let cert : v ≡ tokens.Word words.Cert = sym (ap (head_in v) e) in
    let k = subst (λ y. run (y ∷ before) scan none_built ≡ on r.0 r.1) cert r.2 in
    let st = run_stays before (scan_at number second wants.BlockNumber 0 0) none_built r.0 r.1 refl k in
    let p0 = at + length bs in
    reads_block number second header before bs (blanks ++ (cs ++ x ∷ rest)) at none_built r.0 r.1 (some_behind blanks (cs ++ x ∷ rest) (some_behind cs (x ∷ rest) (x, rest, refl))) n (over_going (is_whole r.0.want) r.0 (as_read t) refl r.3) k (subst (λ y. SpelledTo bs (y ∷ before) (blanks ++ (cs ++ x ∷ rest))) cert h)
    ∙ blanks_read blanks (cs ++ x ∷ rest) p0 r.0 r.1 c
    ∙ token_over t cs x rest (p0 + length blanks) r.0 r.1 (subst (λ y. y < 2 ^ 32) (sym st.0) n) st.2 r.3 sp f where
      wider : (y : ℕ) → y < 2 ^ 32 → y < 2 ^ 63
      wider y l = omega (arith, l)

-- read whole at this place, and within the limits; or refused for a limit
abbrev pub IsEnd : Bool → ℕ → State → Type 0
IsEnd limit n (going s b p) = ⊥
IsEnd limit n (malformed place) = ⊥
IsEnd limit n (over place) = Unit {0}
IsEnd limit n (whole end s b) = (end ≡ n) × (limit ≡ false)

-- a spelling in two parts
abbrev Parted : List ℕ → List Token → List Token → Type 0
Parted bs ts us = (xs : List ℕ) × (ys : List ℕ) × (bs ≡ xs ++ ys) × SpelledTo xs ts ys × Spells ys us

parted : (ts us : List Token) (bs : List ℕ) → Spells bs (ts ++ us) → Parted bs ts us
parted [] us bs h = ([], bs, refl, refl, h)
parted (t ∷ ts) us bs h =
    let r = parted ts us h.2 h.7 in
    (h.0 ++ (h.1 ++ r.0), r.1, h.3 ∙ ap (λ xs. h.0 ++ (h.1 ++ xs)) r.2 ∙ sym (regrouped h.0 h.1 r.0 r.1), (h.0, h.1, r.0, refl, h.4, h.5, subst (EndsAt t) r.2 h.6, r.3), r.4)

spelled_more : (ts : List Token) (bs next more : List ℕ) → IsSome next → SpelledTo bs ts next → SpelledTo bs ts (next ++ more)
spelled_more [] bs next more s h = h
spelled_more (t ∷ ts) bs next more s h = (h.0, h.1, h.2, h.3, h.4, h.5, joins_more next more s t h.2 h.6, spelled_more ts h.2 next more s h.7)

-- a token that passes a limit is none of the signs, so not the last one
not_last : (number : ℕ) (w : Written) (before : List Token) (t : Token) (us : List Token) (ms : List Bool) (scan : Scan) → block_tokens number w [] ≡ before ++ t ∷ us → Follows (before ++ t ∷ us) ms scan → IsFirstMarked before ms → (u : Token) × (more : List Token) × (us ≡ u ∷ more)
not_last number w before t (u ∷ us) ms scan e f m = (u, us, refl)
not_last number w before t [] ms scan e f m = absurd (loud (subst (λ y. IsQuiet y true) (last_is number w before t e) (quiet before ms scan f m))) where
  loud : IsQuiet (tokens.Sign 59) true → ⊥
  loud q = no_truth (sym q)

  quiet : (ts : List Token) (ns : List Bool) (s : Scan) → Follows (ts ++ t ∷ []) ns s → IsFirstMarked ts ns → IsQuiet t true
  quiet ts [] s g k = absurd k
  quiet [] (c ∷ ns) s g k = subst (IsQuiet t) k g.3
  quiet (v ∷ ts) (c ∷ ns) s g k = quiet ts ns g.0 (g.4 k.0).1 k.1

ended_more : (t : Token) (rest more : List ℕ) → IsSome rest → EndsAt t rest → (x : ℕ) × (xs : List ℕ) × (rest ++ more ≡ x ∷ xs) × EndsAt t (x ∷ xs)
ended_more t rest more s h = (s.0, s.1 ++ more, ap (λ ys. ys ++ more) s.2, same t (s.1 ++ more) (subst (EndsAt t) s.2 h)) where
  same : (u : Token) (ys : List ℕ) → EndsAt u (s.0 ∷ s.1) → EndsAt u (s.0 ∷ ys)
  same (tokens.Word w) ys e = e
  same (tokens.Number n) ys e = e
  same (tokens.Sign c) ys e = tt

-- a block's text, and whatever follows it
block_ends : (number : ℕ) (second header : Bool) (w : Written) (bs more : List ℕ) (at : ℕ) → number < 2 ^ 32 → IsProper second w → Spells bs (block_tokens number w []) → IsEnd (tree_over 0 0 w) (at + length bs) (after at (going (scan_at number second (wants.Block header) 0 0) none_built idle) (bs ++ more))
block_ends number second header w bs more at n p h = by (find (block_tokens number w []) (block_marks w) scan follows) where
  wider : (y : ℕ) → y < 2 ^ 32 → y < 2 ^ 63
  wider y l = omega (arith, l)

  scan : Scan
  scan = scan_at number second (wants.Block header) 0 0

  follows : Follows (block_tokens number w []) (block_marks w) (scan_at number second (wants.Block header) 0 0)
  follows = block_follows number second header w (wider number n) p

  state : List ℕ → State
  state xs = after at (going (scan_at number second (wants.Block header) 0 0) none_built idle) xs

  stopped : (before : List Token) (t : Token) (us : List Token) → block_tokens number w [] ≡ before ++ t ∷ us → IsFirstMarked before (block_marks w) → Parted bs before (t ∷ us) → IsEnd (tree_over 0 0 w) (at + length bs) (state (bs ++ more))
  stopped before t us e m r =
      let ys = r.1 in
      let k = r.4 in
      let first = first_byte ys t us k in
      let u = not_last number w before t us (block_marks w) (scan_at number second (wants.Block header) 0 0) e (subst (λ ts. Follows ts (block_marks w) (scan_at number second (wants.Block header) 0 0)) e follows) m in
      let behind = first_byte k.2 u.0 u.1 (subst (Spells k.2) u.2 k.7) in
      let e2 = ended_more t k.2 more (behind.0, behind.1, behind.2) k.6 in
      let whole_text = ap (λ xs. xs ++ more) r.2 ∙ append_assoc r.0 ys more in
      let rest_text = ap (λ xs. xs ++ more) k.3 ∙ regrouped k.0 k.1 k.2 more ∙ ap (λ xs. k.0 ++ (k.1 ++ xs)) e2.2 in
      let spelled = subst (SpelledTo r.0 before) rest_text (spelled_more before r.0 ys more (first.0, first.1, first.2) r.3) in
      subst (IsEnd (tree_over 0 0 w) (at + length bs)) (sym (ap (after at (going (scan_at number second (wants.Block header) 0 0) none_built idle)) (whole_text ∙ ap (λ xs. r.0 ++ xs) rest_text)
      ∙ block_over number second header w before t us r.0 k.0 k.1 e2.0 e2.1 at n p e m spelled k.4 k.5 e2.3)) tt

  by : Marked (block_tokens number w []) (block_marks w) ⊎ HasNoMark (block_marks w) → IsEnd (tree_over 0 0 w) (at + length bs) (state (bs ++ more))
  by (inl m) = stopped m.0 m.1 m.2 m.3 m.4 (parted m.0 (m.1 ∷ m.2) bs (subst (Spells bs) m.3 h))
  by (inr m) =
      let r = run_all (block_tokens number w []) (block_marks w) (scan_at number second (wants.Block header) 0 0) none_built follows m in
      subst (IsEnd (tree_over 0 0 w) (at + length bs)) (sym (block_tokens_read number second header (tokens.Number number ∷ tree_tokens w (tokens.Sign 59 ∷ [])) bs more at none_built r.0 r.1 n r.3 r.2 h)) (refl, (marks-limits second w p).1 m)

pub text_ends : (h : Held) (text more : List ℕ) → h.number < 2 ^ 32 → (r : IsNext h text) → IsEnd (tree_over 0 0 r.3) (h.place + length text) (after h.place (start h.number h.second) (text ++ more))
text_ends h text more n r = by r.0 r.5 r.6 where
  by : (header : Bool) → IsFront header h r.1 → IsProper (header || h.second) r.3 → IsEnd (tree_over 0 0 r.3) (h.place + length text) (after h.place (start h.number h.second) (text ++ more))
  by false f p =
      let e = r.4 ∙ ap (λ xs. xs ++ r.2) f in
      subst (λ xs. IsEnd (tree_over 0 0 r.3) (h.place + length xs) (after h.place (start h.number h.second) (xs ++ more))) (sym e) (block_ends h.number h.second (first_of h) r.3 r.2 more h.place n p r.7)
  by true f p =
      let len = ap length r.4 ∙ length-append r.1 r.2 in
      let state = ap (λ xs. after h.place (start h.number h.second) (xs ++ more)) r.4 ∙ ap (after h.place (start h.number h.second)) (append_assoc r.1 r.2 more)
      ∙ ap (λ q. after h.place q (r.1 ++ (r.2 ++ more))) (first_start h.number h.second f.0 f.1)
      ∙ header_taken h.number none_built r.1 (r.2 ++ more) h.place f.2 in
      subst (IsEnd (tree_over 0 0 r.3) (h.place + length text)) (sym state) (subst (λ m. IsEnd (tree_over 0 0 r.3) m (after (h.place + length r.1) (Behind h.number none_built) (r.2 ++ more))) (let q : h.place + length r.1 + length r.2 ≡ h.place + length text = omega (arith, len) in q) (block_ends h.number true false r.3 r.2 more (h.place + length r.1) n p r.7))

-- nothing that is refused as wrong begins a text
pub wrong_begins_none : (h : Held) (bytes : List ℕ) (place : ℕ) → h.number < 2 ^ 32 → after h.place (start h.number h.second) bytes ≡ malformed place → Begins h bytes → ⊥
wrong_begins_none h bytes place n e b =
    subst (IsEnd (tree_over 0 0 b.1.3) (h.place + length (bytes ++ b.0))) (ap (after h.place (start h.number h.second)) (append_assoc bytes b.0 []) ∙ after-append h.place (start h.number h.second) bytes (b.0 ++ []) ∙ ap (λ q. after (h.place + length bytes) q (b.0 ++ [])) e ∙ stopped_after (h.place + length bytes) (malformed place) (b.0 ++ []) refl) (text_ends h (bytes ++ b.0) [] n b.1)
