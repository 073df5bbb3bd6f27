-- Why no block is answered: each answer tells the truth.
use Rattle.std.proofs.Common.{◌≡◌, ℕ, ◌+◌, ◌<◌, ◌^◌, Bool, true, false, cond, ◌||◌, ◌⊎◌, inl, inr, List, [], ◌∷◌, ◌++◌, length, refl, sym, ap, ◌∙◌, subst}
use Rattle.std.proofs.lemmas.List.{append-nil}
use Rattle.cert_text.specs.declared.scan.Token.{Token}
use Rattle.cert_text.specs.declared.scan.Token.TheVariants as tokens
use Rattle.cert_text.specs.declared.scan.Want.{Want}
use Rattle.cert_text.specs.declared.scan.Want.TheVariants as wants
use Rattle.cert_text.specs.declared.scan.Scan.{Scan}
use Rattle.cert_text.specs.declared.scan.Action.TheVariants as actions
use Rattle.cert_text.specs.Control.{give, word_of}
use Rattle.cert_text.specs.Letters.{is_blank}
use Rattle.cert_text.specs.Tree.{Built, applied, last_tree}
use Rattle.cert_text.specs.Reading.{State, Pending, going, malformed, over, whole, idle, letters, digits, after, start}
use Rattle.cert_text.specs.Run.{scan_at}
use Rattle.cert_text.specs.Answer.{need, no_more, malformed_at, limit_at, at_end, blank_end}
use Rattle.cert_text.specs.Grammar.{tree_over}
use Rattle.cert_text.specs.Held.{Held, answer_of, answer_at, outcome}
use Rattle.cert_laws.specs.Spelled.{AreAll, IsFront}
use Rattle.cert_laws.specs.Refused.{IsNext, IsBlankOnly, IsEnded, standing, LimitAt, WrongAt, BreaksOffAt, NeedsMore}
use Rattle.cert_laws.proofs.Givens.{is_inside}
use Rattle.cert_laws.proofs.Lexing.{blanks_read}
use Rattle.cert_laws.proofs.HeaderRead.{header_taken, first_start}
use Rattle.cert_laws.proofs.Begun.{Start, none_built, going_begins}
use Rattle.cert_laws.proofs.Told.{Reads, IsOpen, Last, l_open, l_wrong, l_over, l_whole, Told}
use Rattle.cert_laws.proofs.Telling.{told}
use Rattle.cert_laws.proofs.Fronts.{Fronts, f_none, f_header, f_behind, f_block, fronts, moved}
use Rattle.cert_laws.proofs.LimitTold.{reads_stay, limit_told}
use Rattle.cert_laws.proofs.LimitRead.{limit_read}
use Rattle.cert_laws.proofs.NeverWrong.{IsEnd, text_ends}
use Rattle.cert_laws.proofs.WrongTold.{wrong_told}
use Rattle.cert_laws.proofs.Standing.{settled, standing_answer}
use Rattle.cert_laws.proofs.Apart.{need_end, need_wrong, need_limit, end_wrong, end_limit, wrong_limit, block_need, block_end, block_wrong, block_limit, place_in, blank_need, blank_limit, blank_wrong, blank_more, judged_more, word_more, if_finished}

no_truth : false ≡ true → ⊥
no_truth h = cc

module _ (h : Held) (n : h.number < 2 ^ 32) where
  abbrev from_start : List ℕ → State
  from_start bs = after h.place (start h.number h.second) bs

  abbrev end : ℕ
  end = h.place + length h.bytes

  pub open_text : h.finished ≡ false → standing h ≡ h.bytes
  open_text f = ap (λ c. cond c (h.bytes ++ 32 ∷ []) h.bytes) f

  pub closed_text : h.finished ≡ true → standing h ≡ h.bytes ++ 32 ∷ []
  closed_text f = ap (λ c. cond c (h.bytes ++ 32 ∷ []) h.bytes) f

  -- more is needed

  going_needs : (s : Scan) (b : Built) (p : Pending) → h.finished ≡ false → from_start h.bytes ≡ going s b p → NeedsMore h
  going_needs s b p f e = (f, going_begins h h.bytes s b p n e, none, λ place d. apart place (sym e ∙ limit_read h h.bytes place n d)) where
    apart : (place : ℕ) → going s b p ≡ over place → ⊥
    apart place q = cc

    none : (bs rest : List ℕ) → h.bytes ≡ bs ++ rest → IsNext h bs → ⊥
    none bs rest q t = subst (IsEnd (tree_over 0 0 t.3) (h.place + length bs)) (ap (after h.place (start h.number h.second)) (sym q) ∙ e) (text_ends h bs rest n t)

  need_by : (q : State) → from_start (standing h) ≡ q → settled h q ≡ need → NeedsMore h
  need_by (going s b p) e a = if_finished (NeedsMore h) h.finished _ _ need (λ f g. absurd (blank_need s.want end g)) (λ f g. going_needs s b p f (ap from_start (sym (open_text f)) ∙ e)) a
  need_by (malformed place) e a = absurd (need_wrong place (sym a))
  need_by (over place) e a = absurd (need_limit place (sym a))
  need_by (whole stop s b) e a = absurd (block_need h.number (last_tree b.trees) a)

  pub need_is_true : answer_of h ≡ need → NeedsMore h
  need_is_true a = need_by (from_start (standing h)) refl (sym (standing_answer h) ∙ a)

  -- a limit

  limit_by : (q : State) (place : ℕ) → from_start (standing h) ≡ q → settled h q ≡ limit_at place → LimitAt h (standing h) place
  limit_by (going s b p) place e a = absurd (if_finished ⊥ h.finished _ _ (limit_at place) (λ f g. blank_limit s.want end place g) (λ f g. need_limit place g) a)
  limit_by (malformed m) place e a = absurd (wrong_limit m place a)
  limit_by (over m) place e a = limit_told h n (standing h) place (e ∙ ap over (ap (place_in m) a))
  limit_by (whole stop s b) place e a = absurd (block_limit h.number (last_tree b.trees) place a)

  pub limit_is_true : (place : ℕ) → answer_of h ≡ limit_at place → LimitAt h (standing h) place
  limit_is_true place a = limit_by (from_start (standing h)) place refl (sym (standing_answer h) ∙ a)

  pub limit_is_answered : (place : ℕ) → LimitAt h (standing h) place → answer_of h ≡ limit_at place
  limit_is_answered place d = standing_answer h ∙ ap (settled h) (limit_read h (standing h) place n d)

  -- the end

  no_truth2 : (header : Bool) (want : Want) → want ≡ wants.Block header → is_inside want ≡ true → ⊥
  no_truth2 header want e i = no_truth (sym (ap is_inside e) ∙ i)

  other_want : (header : Bool) (want : Want) → want ≡ wants.Block header → (want ≡ wants.HeaderNumber) ⊎ (want ≡ wants.HeaderEnd) → ⊥
  other_want header want e (inl q) = apart (sym e ∙ q) where
    apart : wants.Block header ≡ wants.HeaderNumber → ⊥
    apart f = cc
  other_want header want e (inr q) = apart (sym e ∙ q) where
    apart : wants.Block header ≡ wants.HeaderEnd → ⊥
    apart f = cc

  blank_by : (front : List ℕ) (ts : List Token) (next : List ℕ) (s : Scan) (b : Built) (header : Bool) → h.bytes ≡ front ++ next → AreAll is_blank next → s.want ≡ wants.Block header → Fronts h front next ts s b → IsBlankOnly h
  blank_by front ts next s b header f c w (f_none a v q) = (false, [], next, f ∙ ap (λ l. l ++ next) a, refl, c)
  blank_by front ts next s b header f c w (f_header q) = absurd (other_want header s.want w q)
  blank_by front ts next s b header f c w (f_behind a q) = (true, front, next, f, a, c)
  blank_by front ts next s b header f c w (f_block headed head bs us flag fe ff rd) =
      let inner = moved h next s b us rd.2 (scan_at h.number (headed || h.second) wants.BlockNumber 0 0) rd.3 actions.Nothing rd.4 rd.10 rd.11 in
      absurd (no_truth2 header s.want w (reads_stay us rd.2 next (scan_at h.number (headed || h.second) wants.BlockNumber 0 0) none_built s b refl inner).2)

  blank_told : (s : Scan) (b : Built) (header : Bool) → from_start h.bytes ≡ going s b idle → s.want ≡ wants.Block header → IsBlankOnly h
  blank_told s b header e w = by (told h.bytes h.place (Start h) none_built (n, refl)) where
    scan_of : State → Scan
    scan_of (going q c p) = q
    scan_of (malformed p) = s
    scan_of (over p) = s
    scan_of (whole stop q c) = s

    pending_of : State → Pending
    pending_of (going q c p) = p
    pending_of (malformed p) = idle
    pending_of (over p) = idle
    pending_of (whole stop q c) = idle

    open_idle : (p : Pending) (scan : Scan) (cs : List ℕ) (m : ℕ) → p ≡ idle → IsOpen scan p cs m → cs ≡ []
    open_idle p scan cs m q o = subst (λ x. IsOpen scan x cs m) q o

    from : (front : List ℕ) (ts : List Token) (next : List ℕ) (s1 : Scan) (b1 : Built) (at : ℕ) → h.bytes ≡ front ++ next → Reads front ts next (Start h) none_built s1 b1 → Last s1 b1 next at (after h.place (start h.number h.second) h.bytes) → IsBlankOnly h
    from front ts next s1 b1 at f r (l_open blanks cs p k c i q) =
        let same = sym e ∙ q in
        let empty = open_idle p s1 cs (at + length blanks) (sym (ap pending_of same)) i in
        blank_by front ts next s1 b1 header f (subst (AreAll is_blank) (sym (k ∙ ap (λ l. blanks ++ l) empty ∙ append-nil blanks)) c) (ap (λ x. x.want) (sym (ap scan_of same)) ∙ w) (fronts h next s1 b1 ts front r)
    from front ts next s1 b1 at f r (l_wrong blanks cs rest k c o i q) = absurd (apart (sym e ∙ q)) where
      apart : going s b idle ≡ malformed (at + length blanks) → ⊥
      apart v = cc
    from front ts next s1 b1 at f r (l_over blanks cs rest t k c sp j o g q) = absurd (apart (sym e ∙ q)) where
      apart : going s b idle ≡ over (at + length blanks) → ⊥
      apart v = cc
    from front ts next s1 b1 at f r (l_whole blanks cs rest t s2 a stop k c i j x g z q) = absurd (apart (sym e ∙ q)) where
      apart : going s b idle ≡ whole stop s2 (applied a b1) → ⊥
      apart v = cc

    by : Told h.bytes h.place (Start h) none_built (after h.place (start h.number h.second) h.bytes) → IsBlankOnly h
    by r = from r.0 r.1 r.2 r.3 r.4 r.5 r.6 r.8 r.9

  ends_blank : (s : Scan) (b : Built) (p : Pending) → from_start h.bytes ≡ going s b p → at_end s p end ≡ no_more → IsBlankOnly h
  ends_blank s b idle e a = let w = blank_more s.want end a in blank_told s b w.0 e w.1
  ends_blank s b (letters place ls) e a = absurd (word_more s (word_of ls) place end a)
  ends_blank s b (digits place m) e a = absurd (judged_more (give s (tokens.Number m)) place end a)

  end_by : (q : State) → from_start h.bytes ≡ q → answer_at q h ≡ no_more → IsEnded h
  end_by (going s b p) e a = if_finished (IsEnded h) h.finished _ _ no_more (λ f g. (f, ends_blank s b p e g)) (λ f g. absurd (need_end g)) a
  end_by (malformed place) e a = absurd (end_wrong place (sym a))
  end_by (over place) e a = absurd (end_limit place (sym a))
  end_by (whole stop s b) e a = absurd (block_end h.number (last_tree b.trees) a)

  pub end_is_true : answer_of h ≡ no_more → IsEnded h
  end_is_true a = end_by (outcome h) refl a

  -- only blanks are read as such
  blanks_end : (header : Bool) (head blanks : List ℕ) → h.bytes ≡ head ++ blanks → IsFront header h head → AreAll is_blank blanks → h.finished ≡ true → answer_of h ≡ no_more
  blanks_end false head blanks q f c t =
      let s = Start h in
      let read = ap from_start (q ∙ ap (λ l. l ++ blanks) f ∙ sym (append-nil blanks)) ∙ blanks_read blanks [] h.place s none_built c in
      ap (λ x. answer_at x h) read ∙ ap (λ y. cond y no_more need) t
  blanks_end true head blanks q f c t =
      let s = scan_at h.number true (wants.Block false) 0 0 in
      let read = ap from_start q ∙ ap (λ x. after h.place x (head ++ blanks)) (first_start h.number h.second f.0 f.1) ∙ header_taken h.number none_built head blanks h.place f.2
      ∙ ap (after (h.place + length head) (going s none_built idle)) (sym (append-nil blanks)) ∙ blanks_read blanks [] (h.place + length head) s none_built c in
      ap (λ x. answer_at x h) read ∙ ap (λ y. cond y no_more need) t

  pub end_is_answered : h.finished ≡ true → IsBlankOnly h → answer_of h ≡ no_more
  end_is_answered t d = blanks_end d.0 d.1 d.2 d.3 d.4 d.5 t

  -- something is wrong

  breaks_off : (s : Scan) (b : Built) (p : Pending) (place : ℕ) → answer_of h ≡ malformed_at place → from_start (standing h) ≡ going s b p → h.finished ≡ true → blank_end s.want end ≡ malformed_at place → BreaksOffAt h place
  breaks_off s b p place a e f g =
      let text = ap from_start (sym (closed_text f)) ∙ e in
      (f, (λ d. end_wrong place (sym (end_is_answered f d) ∙ a)), going_begins h (h.bytes ++ 32 ∷ []) s b p n text, (λ m d. apart m (sym text ∙ limit_read h (h.bytes ++ 32 ∷ []) m n d)), sym (blank_wrong s.want end place g)) where
        apart : (m : ℕ) → going s b p ≡ over m → ⊥
        apart m q = cc

  wrong_by : (q : State) (place : ℕ) → answer_of h ≡ malformed_at place → from_start (standing h) ≡ q → settled h q ≡ malformed_at place → WrongAt h place ⊎ BreaksOffAt h place
  wrong_by (going s b p) place a e g = if_finished (WrongAt h place ⊎ BreaksOffAt h place) h.finished _ _ (malformed_at place) (λ f k. inr (breaks_off s b p place a e f k)) (λ f k. absurd (need_wrong place k)) g
  wrong_by (malformed m) place a e g = inl (wrong_told h n (standing h) place (e ∙ ap malformed (ap (place_in m) g)))
  wrong_by (over m) place a e g = absurd (wrong_limit place m (sym g))
  wrong_by (whole stop s b) place a e g = absurd (block_wrong h.number (last_tree b.trees) place g)

  pub malformed_is_true : (place : ℕ) → answer_of h ≡ malformed_at place → WrongAt h place ⊎ BreaksOffAt h place
  malformed_is_true place a = wrong_by (from_start (standing h)) place a refl (sym (standing_answer h) ∙ a)
