-- And each answer is given where it is true.
use Rattle.std.proofs.Common.{◌≡◌, ℕ, ◌+◌, ◌<◌, ◌≤◌, ◌^◌, true, false, cond, ◌⊎◌, inl, inr, List, [], ◌∷◌, ◌++◌, length, refl, sym, ap, ◌∙◌, subst, arith, append_assoc}
use Rattle.std.proofs.lemmas.Bool.{cases_lt}
use Rattle.std.proofs.lemmas.List.{length-append, append-nil}
use Rattle.cert_text.specs.declared.scan.Want.{Want}
use Rattle.cert_text.specs.declared.scan.Want.TheVariants as wants
use Rattle.cert_text.specs.declared.scan.Scan.{Scan}
use Rattle.cert_text.specs.Tree.{Built}
use Rattle.cert_text.specs.Reading.{State, going, malformed, over, whole, after, start}
use Rattle.cert_text.specs.Answer.{need, no_more, malformed_at, blank_end}
use Rattle.cert_text.specs.Grammar.{tree_over}
use Rattle.cert_text.specs.Held.{Held, answer_of}
use Rattle.cert_text.proofs.Stopping.{after-append, stopped_after}
use Rattle.cert_text.proofs.Within.{block_within}
use Rattle.cert_laws.specs.Refused.{IsNext, Begins, HasNoLimit, LimitAt, NoneGoesOn, IsOfToken, IsBlankOnly, WrongAt, BreaksOffAt, NeedsMore, standing, runs_on}
use Rattle.cert_laws.proofs.Begun.{going_begins}
use Rattle.cert_laws.proofs.NeverWrong.{IsEnd, text_ends, wrong_begins_none}
use Rattle.cert_laws.proofs.LimitTold.{limit_told}
use Rattle.cert_laws.proofs.WrongTold.{wrong_told, Begun, whole_told}
use Rattle.cert_laws.proofs.Standing.{settled, standing_answer, blank_whole}
use Rattle.cert_laws.proofs.Answers.{end_is_true, open_text, closed_text}
use Rattle.cert_laws.proofs.Ending.{runs_none, runs_behind, runs_first, runs_to_blank, token_first}
use Rattle.cert_laws.proofs.Cuts.{Aligned, aligned, holds}

abbrev Longer : List ℕ → List ℕ → Type 0
Longer xs ys = length xs < length ys

module _ (h : Held) (n : h.number < 2 ^ 32) where
  abbrev from_start : List ℕ → State
  from_start bs = after h.place (start h.number h.second) bs

  -- where a text goes on behind a blank no block is whole
  never_whole : (bs more : List ℕ) (stop : ℕ) (s : Scan) (b : Built) → IsNext h ((bs ++ 32 ∷ []) ++ more) → from_start (bs ++ 32 ∷ []) ≡ whole stop s b → ⊥
  never_whole bs more stop s b t e =
      let one = blank_whole (from_start bs) (h.place + length bs) stop s b (sym (after-append h.place (start h.number h.second) bs (32 ∷ [])) ∙ e) in
      let within = block_within h.place stop h.number h.second bs s b one in
      let text = (bs ++ 32 ∷ []) ++ more in
      let state = ap from_start (append-nil text) ∙ after-append h.place (start h.number h.second) (bs ++ 32 ∷ []) more ∙ ap (λ q. after (h.place + length (bs ++ 32 ∷ [])) q more) e ∙ stopped_after (h.place + length (bs ++ 32 ∷ [])) (whole stop s b) more refl in
      let there = (subst (IsEnd (tree_over 0 0 t.3) (h.place + length text)) state (text_ends h text [] n t)).0 in
      let upper = within.1 in
      let len = length-append (bs ++ 32 ∷ []) more in
      let len2 = length-append bs (32 ∷ []) in
      absurd (omega (arith, there, upper, len, len2))

  -- a text that holds a token with which none goes on
  contradicted : (front cs rest z behind more : List ℕ) → IsOfToken cs → NoneGoesOn h front cs rest → rest ≡ z ++ behind → IsNext h ((front ++ (cs ++ z)) ++ more) → (z ≡ [] → runs_on cs more ≡ false) → ⊥
  contradicted front cs rest z behind more o none e t s = by none where
    text : IsNext h ((front ++ cs) ++ (z ++ more))
    text = subst (IsNext h) (ap (λ l. l ++ more) (sym (append_assoc front cs z)) ∙ append_assoc (front ++ cs) z more) t

    at_seam : (l : List ℕ) → runs_on cs l ≡ false → runs_on (front ++ cs) l ≡ false
    at_seam l k = ap (λ x. runs_on (front ++ x) l) o.2 ∙ runs_behind front o.0 o.1 l ∙ ap (λ x. runs_on x l) (sym o.2) ∙ k

    seam : (y : List ℕ) → z ≡ y → runs_on cs rest ≡ false → runs_on cs (z ++ more) ≡ false
    seam [] q k = ap (λ x. runs_on cs (x ++ more)) q ∙ s q
    seam (x ∷ y) q k = ap (λ l. runs_on cs (l ++ more)) q ∙ runs_first cs x (y ++ more) (y ++ behind) ∙ ap (λ l. runs_on cs (l ++ behind)) (sym q) ∙ ap (runs_on cs) (sym e) ∙ k

    by : NoneGoesOn h front cs rest → ⊥
    by (inl f) = f (z ++ more, text)
    by (inr f) = f.4 (z ++ more, at_seam (z ++ more) (seam z refl f.3), text)

  -- more is needed

  need_by : (q : State) → from_start (standing h) ≡ q → NeedsMore h → settled h q ≡ need
  need_by (going s b p) e d = ap (λ c. cond c (blank_end s.want (h.place + length h.bytes)) need) d.0
  need_by (malformed m) e d = absurd (wrong_begins_none h h.bytes m n (ap from_start (sym (open_text h n d.0)) ∙ e) d.1)
  need_by (over m) e d = absurd (d.3 m (limit_told h n h.bytes m (ap from_start (sym (open_text h n d.0)) ∙ e)))
  need_by (whole stop s b) e d = let r = whole_told h n h.bytes stop s b (ap from_start (sym (open_text h n d.0)) ∙ e) in absurd (d.2 r.0 r.1 r.2 r.3)

  pub need_is_answered : NeedsMore h → answer_of h ≡ need
  need_is_answered d = standing_answer h ∙ need_by (from_start (standing h)) refl d

  -- the text breaks off

  abbrev end : ℕ
  end = h.place + length h.bytes

  wrong_or_end : (want : Want) (m : ℕ) → (blank_end want m ≡ malformed_at m) ⊎ (blank_end want m ≡ no_more)
  wrong_or_end (wants.Block header) m = inr refl
  wrong_or_end wants.HeaderNumber m = inl refl
  wrong_or_end _ m = inl refl

  breaks_by : (q : State) → from_start (standing h) ≡ q → h.finished ≡ true → (IsBlankOnly h → ⊥) → Begins h (h.bytes ++ 32 ∷ []) → HasNoLimit h (h.bytes ++ 32 ∷ []) → settled h q ≡ malformed_at end
  breaks_by (malformed m) e f k t l = absurd (wrong_begins_none h (h.bytes ++ 32 ∷ []) m n (ap from_start (sym (closed_text h n f)) ∙ e) t)
  breaks_by (over m) e f k t l = absurd (l m (limit_told h n (h.bytes ++ 32 ∷ []) m (ap from_start (sym (closed_text h n f)) ∙ e)))
  breaks_by (whole stop s b) e f k t l = absurd (never_whole h.bytes t.0 stop s b t.1 (ap from_start (sym (closed_text h n f)) ∙ e))
  breaks_by (going s b p) e f k t l = by (wrong_or_end s.want end) where
    value : settled h (going s b p) ≡ blank_end s.want (h.place + length h.bytes)
    value = ap (λ c. cond c (blank_end s.want (h.place + length h.bytes)) need) f

    by : (blank_end s.want (h.place + length h.bytes) ≡ malformed_at (h.place + length h.bytes)) ⊎ (blank_end s.want (h.place + length h.bytes) ≡ no_more) → settled h (going s b p) ≡ malformed_at (h.place + length h.bytes)
    by (inl g) = value ∙ g
    by (inr g) = absurd (k (end_is_true h n (standing_answer h ∙ ap (settled h) e ∙ value ∙ g)).1)

  -- something is wrong

  module _ (place : ℕ) (front cs rest : List ℕ) (text : standing h ≡ front ++ (cs ++ rest)) (o : IsOfToken cs) (seam : runs_on front cs ≡ false) (begun : Begins h (front ++ 32 ∷ [])) (free : HasNoLimit h (front ++ 32 ∷ [])) (none : NoneGoesOn h front cs rest) where
    -- nothing is read beyond that token
    not_beyond : (more behind rest_of : List ℕ) → front ++ (cs ++ rest) ≡ more ++ behind → runs_on more behind ≡ false → Longer front more → IsNext h (more ++ rest_of) → runs_on more rest_of ≡ false → ⊥
    not_beyond more behind rest_of e s l t k =
        let r = holds front cs rest more behind e o s l in
        contradicted front cs rest r.0 behind rest_of o none r.2 (subst (λ x. IsNext h (x ++ rest_of)) r.1 t) (λ q.
        ap (λ x. runs_on x rest_of) o.2 ∙ sym (runs_behind front o.0 o.1 rest_of) ∙ ap (λ x. runs_on (front ++ x) rest_of) (sym o.2)
        ∙ ap (λ x. runs_on (front ++ x) rest_of) (sym (append-nil cs)) ∙ ap (λ x. runs_on (front ++ (cs ++ x)) rest_of) (sym q) ∙ ap (λ x. runs_on x rest_of) (sym r.1) ∙ k)

    -- an open text would begin a block with it
    not_open : Begins h (standing h) → ⊥
    not_open t = by none where
      longer : IsNext h ((front ++ (cs ++ rest)) ++ t.0)
      longer = subst (λ x. IsNext h (x ++ t.0)) text t.1

      empty : (behind : ℕ) (more : List ℕ) → rest ≡ behind ∷ more → rest ≡ [] → ⊥
      empty behind more q r = let e = ap length (sym q ∙ r) in omega (arith, e)

      by : NoneGoesOn h front cs rest → ⊥
      by (inl f) = f (rest ++ t.0, subst (IsNext h) (ap (λ l. l ++ t.0) (sym (append_assoc front cs rest)) ∙ append_assoc (front ++ cs) rest t.0) longer)
      by (inr f) = contradicted front cs rest rest [] t.0 o none (sym (append-nil rest)) longer (λ q. absurd (empty f.0 f.1 f.2 q))

    -- nor has a limit been passed
    not_limited : (m : ℕ) → LimitAt h (standing h) m → ⊥
    not_limited m d = by (cases_lt (length front) (length (d.0 ++ d.1))) where
      some : (c : ℕ) × (l : List ℕ) × (d.1 ≡ c ∷ l)
      some = token_first d.8.6 d.1 d.8.12

      same : front ++ (cs ++ rest) ≡ (d.0 ++ d.1) ++ d.2 ∷ d.3
      same = sym text ∙ d.4 ∙ sym (append_assoc d.0 d.1 (d.2 ∷ d.3))

      within : Aligned (d.0 ++ d.1) (d.2 ∷ d.3) front (cs ++ rest) → ⊥
      within r = from r.0 r.1 r.2 where
        from : (y : List ℕ) → front ≡ (d.0 ++ d.1) ++ y → d.2 ∷ d.3 ≡ y ++ (cs ++ rest) → ⊥
        from [] q k = free m (d.0, d.1, 32, [], ap (λ l. l ++ 32 ∷ []) (q ∙ append-nil (d.0 ++ d.1)) ∙ append_assoc d.0 d.1 (32 ∷ []), d.5, runs_to_blank d.1 32 [] refl, d.7, d.8, d.9)
        from (x ∷ y) q k =
            free m (
              d.0,
              d.1,
              x,
              y ++ 32 ∷ [],
              ap (λ l. l ++ 32 ∷ []) q ∙ append_assoc (d.0 ++ d.1) (x ∷ y) (32 ∷ []) ∙ append_assoc d.0 d.1 (x ∷ y ++ 32 ∷ []),
              d.5,
              runs_first d.1 x (y ++ 32 ∷ []) (y ++ (cs ++ rest)) ∙ ap (runs_on d.1) (sym k) ∙ d.6,
              d.7,
              d.8,
              d.9,
            )

      by : (length front < length (d.0 ++ d.1)) ⊎ (length (d.0 ++ d.1) ≤ length front) → ⊥
      by (inl l) = not_beyond (d.0 ++ d.1) (d.2 ∷ d.3) d.7.0 same (ap (λ x. runs_on (d.0 ++ x) (d.2 ∷ d.3)) some.2 ∙ runs_behind d.0 some.0 some.1 (d.2 ∷ d.3) ∙ ap (λ x. runs_on x (d.2 ∷ d.3)) (sym some.2) ∙ d.6) l d.7.2 d.7.1
      by (inr l) = within (aligned (d.0 ++ d.1) (d.2 ∷ d.3) front (cs ++ rest) (sym same) l)

    -- nor is a block whole
    not_whole : Begun h n (standing h) → ⊥
    not_whole d = by (cases_lt (length front) (length d.0)) where
      same : front ++ (cs ++ rest) ≡ d.0 ++ d.1
      same = sym text ∙ d.2

      ends : (q : State) → after h.place (start h.number h.second) (front ++ 32 ∷ []) ≡ q → IsEnd (tree_over 0 0 d.3.3) (h.place + length d.0) q → ⊥
      ends (going s b p) e k = k
      ends (malformed m) e k = k
      ends (over m) e k = free m (limit_told h n (front ++ 32 ∷ []) m e)
      ends (whole stop s b) e k = never_whole front begun.0 stop s b begun.1 e

      within : Aligned d.0 d.1 front (cs ++ rest) → ⊥
      within r = ends (after h.place (start h.number h.second) (front ++ 32 ∷ [])) refl (subst (λ l. IsEnd (tree_over 0 0 d.3.3) (h.place + length d.0) (after h.place (start h.number h.second) l)) (sym (ap (λ l. l ++ 32 ∷ []) r.1 ∙ append_assoc d.0 r.0 (32 ∷ []))) (text_ends h d.0 (r.0 ++ 32 ∷ []) n d.3))

      by : (length front < length d.0) ⊎ (length d.0 ≤ length front) → ⊥
      by (inl l) = not_beyond d.0 d.1 [] same d.4 l (subst (IsNext h) (sym (append-nil d.0)) d.3) (runs_none d.0)
      by (inr l) = within (aligned d.0 d.1 front (cs ++ rest) (sym same) l)

  -- of two such tokens neither stands before the other
  not_before : (place m : ℕ) (v : WrongAt h place) (w : WrongAt h m) → length v.0 < length w.0 → ⊥
  not_before place m v w l =
      let o = w.4 in
      let b = w.6 in
      not_beyond place v.0 v.1 v.2 v.3 v.4 v.5 v.6 v.7 v.8 w.0 (w.1 ++ w.2) (32 ∷ b.0) (sym v.3 ∙ w.3)
      (ap (λ x. runs_on w.0 (x ++ w.2)) o.2 ∙ runs_first w.0 o.0 (o.1 ++ w.2) o.1 ∙ ap (runs_on w.0) (sym o.2) ∙ w.5) l
      (subst (IsNext h) (append_assoc w.0 (32 ∷ []) b.0) b.1) (runs_to_blank w.0 32 b.0 refl)

  one_place : (place m : ℕ) → WrongAt h place → WrongAt h m → malformed_at m ≡ malformed_at place
  one_place place m v w = by (cases_lt (length v.0) (length w.0)) where
    there : length w.0 ≡ length v.0 → malformed_at m ≡ malformed_at place
    there e = ap malformed_at (w.9 ∙ ap (λ x. h.place + x) e ∙ sym v.9)

    second : (length w.0 < length v.0) ⊎ (length v.0 ≤ length w.0) → length w.0 ≤ length v.0 → malformed_at m ≡ malformed_at place
    second (inl l) k = absurd (not_before m place w v l)
    second (inr l) k = there (let e : length w.0 ≡ length v.0 = omega (arith, l, k) in e)

    by : (length v.0 < length w.0) ⊎ (length w.0 ≤ length v.0) → malformed_at m ≡ malformed_at place
    by (inl l) = absurd (not_before place m v w l)
    by (inr l) = second (cases_lt (length w.0) (length v.0)) l

  wrong_by : (q : State) (place : ℕ) → from_start (standing h) ≡ q → WrongAt h place → settled h q ≡ malformed_at place
  wrong_by (going s b p) place e d = absurd (not_open place d.0 d.1 d.2 d.3 d.4 d.5 d.6 d.7 d.8 (going_begins h (standing h) s b p n e))
  wrong_by (malformed m) place e d = one_place place m d (wrong_told h n (standing h) m e)
  wrong_by (over m) place e d = absurd (not_limited place d.0 d.1 d.2 d.3 d.4 d.5 d.6 d.7 d.8 m (limit_told h n (standing h) m e))
  wrong_by (whole stop s b) place e d = absurd (not_whole place d.0 d.1 d.2 d.3 d.4 d.5 d.6 d.7 d.8 (whole_told h n (standing h) stop s b e))

  pub malformed_is_answered : (place : ℕ) → WrongAt h place ⊎ BreaksOffAt h place → answer_of h ≡ malformed_at place
  malformed_is_answered place (inl d) = standing_answer h ∙ wrong_by (from_start (standing h)) place refl d
  malformed_is_answered place (inr d) = standing_answer h ∙ breaks_by (from_start (standing h)) refl d.0 d.1 d.2 d.3 ∙ ap malformed_at (sym d.4)
