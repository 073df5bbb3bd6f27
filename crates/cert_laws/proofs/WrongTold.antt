-- Where the machine refuses something as wrong stands the first token with which no block is begun; and where it reads a block
-- whole, what it has read is a text of it.
use Rattle.std.proofs.Common.{◌≡◌, ℕ, ◌+◌, ◌<◌, ◌^◌, true, false, inl, inr, List, [], ◌∷◌, ◌++◌, length, refl, sym, ap, ◌∙◌, subst, arith, append_assoc}
use Rattle.std.proofs.lemmas.List.{length-append, append-nil}
use Rattle.cert_text.specs.declared.scan.Token.{Token}
use Rattle.cert_text.specs.declared.scan.Scan.{Scan}
use Rattle.cert_text.specs.declared.scan.Action.{Action}
use Rattle.cert_text.specs.declared.scan.Given.TheVariants as givens
use Rattle.cert_text.specs.Control.{give}
use Rattle.cert_text.specs.Letters.{is_blank}
use Rattle.cert_text.specs.Tree.{Built, applied}
use Rattle.cert_text.specs.Reading.{State, going, malformed, over, whole, idle, step, after, start, is_whole}
use Rattle.cert_text.specs.Grammar.{tree_over}
use Rattle.cert_text.specs.Held.{Held}
use Rattle.cert_laws.specs.Spelled.{AreAll, IsSpelling, EndsAt}
use Rattle.cert_laws.specs.Refused.{IsNext, Begins, BeginsEnded, HasNoLimit, IsOfToken, NoneGoesOn, runs_on}
use Rattle.cert_laws.proofs.Lexing.{blanks_read}
use Rattle.cert_laws.proofs.BlockRead.{whole_is}
use Rattle.cert_laws.proofs.Seams.{IsExact}
use Rattle.cert_laws.proofs.Told.{Reads, IsRefused, Last, l_open, l_wrong, l_over, l_whole, Told}
use Rattle.cert_laws.proofs.Telling.{told}
use Rattle.cert_laws.proofs.Tails.{Tail, step_back, tail_back}
use Rattle.cert_laws.proofs.Begun.{Start, none_built, is_next, IsSome, some_joined, joins_blanks, same_number, front_begins}
use Rattle.cert_laws.proofs.Forward.{some_behind}
use Rattle.cert_laws.proofs.NeverWrong.{IsEnd, text_ends, wrong_begins_none}
use Rattle.cert_laws.proofs.Resume.{resume}
use Rattle.cert_laws.proofs.LimitTold.{joins_common}
use Rattle.cert_laws.proofs.LimitRead.{limit_read}
use Rattle.cert_laws.proofs.Ending.{runs_behind, runs_first, runs_to_blank, ended_stops, front_stops, token_first}

at_blank : (s : Scan) (b : Built) (m : ℕ) → after m (going s b idle) (32 ∷ []) ≡ going s b idle
unfolding step
at_blank s b m = refl

module _ (h : Held) (n : h.number < 2 ^ 32) where
  abbrev from_start : List ℕ → State
  from_start bs = after h.place (start h.number h.second) bs

  abbrev Taken : List ℕ → List Token → List ℕ → Scan → Built → Type 0
  Taken front ts next s b = Reads front ts next (Start h) none_built s b

  -- behind tokens that were taken and blanks
  behind : (front : List ℕ) (ts : List Token) (blanks cs rest ys : List ℕ) (s : Scan) (b : Built) → Taken front ts (blanks ++ (cs ++ rest)) s b → AreAll is_blank blanks → is_whole s.want ≡ false → IsSome (blanks ++ ys) → ((t : Token) (xs : List ℕ) → EndsAt t (xs ++ (blanks ++ (cs ++ rest))) → EndsAt t (xs ++ (blanks ++ ys))) → from_start ((front ++ blanks) ++ ys) ≡ after (h.place + length (front ++ blanks)) (going s b idle) ys
  behind front ts blanks cs rest ys s b r c w some j =
      let len = length-append front blanks in
      ap from_start (append_assoc front blanks ys)
      ∙ resume ts front (blanks ++ (cs ++ rest)) (blanks ++ ys) h.place (Start h) none_built s b n r w some j
      ∙ blanks_read blanks ys (h.place + length front) s b c
      ∙ ap (λ m. after m (going s b idle) ys) (let z : h.place + length front + length blanks ≡ h.place + length (front ++ blanks) = omega (arith, len) in z)

  -- the token's own bytes, with more of it or another byte behind them
  token_behind : (front : List ℕ) (ts : List Token) (blanks cs rest more : List ℕ) (s : Scan) (b : Built) → Taken front ts (blanks ++ (cs ++ rest)) s b → AreAll is_blank blanks → is_whole s.want ≡ false → IsOfToken cs → from_start ((front ++ blanks) ++ (cs ++ more)) ≡ after (h.place + length (front ++ blanks)) (going s b idle) (cs ++ more)
  token_behind front ts blanks cs rest more s b r c w o =
      let zs = some_joined blanks cs (o.0, o.1, o.2) in
      let joins = λ (u : Token) (xs : List ℕ) (e : EndsAt u (xs ++ (blanks ++ (cs ++ rest)))). subst (λ l. EndsAt u (xs ++ l)) (append_assoc blanks cs more) (joins_common (blanks ++ cs) rest more zs u xs (subst (λ l. EndsAt u (xs ++ l)) (sym (append_assoc blanks cs rest)) e)) in
      behind front ts blanks cs rest (cs ++ more) s b r c w (some_behind blanks (cs ++ more) (o.0, o.1 ++ more, ap (λ l. l ++ more) o.2)) joins

  none_goes_on : (front : List ℕ) (ts : List Token) (blanks cs rest : List ℕ) (s : Scan) (b : Built) → Taken front ts (blanks ++ (cs ++ rest)) s b → AreAll is_blank blanks → is_whole s.want ≡ false → IsOfToken cs → IsRefused s b (h.place + length (front ++ blanks)) cs rest → NoneGoesOn h (front ++ blanks) cs rest
  none_goes_on front ts blanks cs rest s b r c w o (inl e) =
      inl (wrong_begins_none h ((front ++ blanks) ++ cs) (h.place + length (front ++ blanks)) n (ap (λ l. from_start ((front ++ blanks) ++ l)) (sym (append-nil cs)) ∙ token_behind front ts blanks cs rest [] s b r c w o ∙ ap (after (h.place + length (front ++ blanks)) (going s b idle)) (append-nil cs) ∙ e))
  none_goes_on front ts blanks cs rest s b r c w o (inr e) = inr (e.0, e.1, e.2, e.3, none) where
    refused : (z : ℕ) → runs_on cs (z ∷ []) ≡ false → after h.place (start h.number h.second) (((front ++ blanks) ++ cs) ++ z ∷ []) ≡ malformed (h.place + length (front ++ blanks))
    refused z k = ap (after h.place (start h.number h.second)) (append_assoc (front ++ blanks) cs (z ∷ [])) ∙ token_behind front ts blanks cs rest (z ∷ []) s b r c w o ∙ e.4 z k

    none : BeginsEnded h ((front ++ blanks) ++ cs) → ⊥
    none m = by m.0 m.1 m.2 where
      by : (more : List ℕ) → runs_on ((front ++ blanks) ++ cs) more ≡ false → IsNext h (((front ++ blanks) ++ cs) ++ more) → ⊥
      by [] k t =
          let u = subst (IsNext h) (append-nil ((front ++ blanks) ++ cs)) t in
          subst (IsEnd (tree_over 0 0 u.3) (h.place + length ((front ++ blanks) ++ cs))) (refused 32 (runs_to_blank cs 32 [] refl)) (text_ends h ((front ++ blanks) ++ cs) (32 ∷ []) n u)
      by (z ∷ zs) k t =
          let stops = ap (λ l. runs_on l (z ∷ [])) o.2 ∙ sym (runs_behind (front ++ blanks) o.0 o.1 (z ∷ [])) ∙ ap (λ l. runs_on ((front ++ blanks) ++ l) (z ∷ [])) (sym o.2) ∙ runs_first ((front ++ blanks) ++ cs) z [] zs ∙ k in
          wrong_begins_none h (((front ++ blanks) ++ cs) ++ z ∷ []) (h.place + length (front ++ blanks)) n (refused z stops) (zs, subst (IsNext h) (sym (append_assoc ((front ++ blanks) ++ cs) (z ∷ []) zs)) t)

  -- behind what was taken nothing has passed a limit
  no_limit : (front : List ℕ) (ts : List Token) (blanks cs rest : List ℕ) (s : Scan) (b : Built) → Taken front ts (blanks ++ (cs ++ rest)) s b → AreAll is_blank blanks → is_whole s.want ≡ false → HasNoLimit h ((front ++ blanks) ++ 32 ∷ [])
  no_limit front ts blanks cs rest s b r c w place d = apart (sym (at_blank s b (h.place + length (front ++ blanks))) ∙ sym (behind front ts blanks cs rest (32 ∷ []) s b r c w (some_behind blanks (32 ∷ []) (32, [], refl)) (joins_blanks (blanks ++ (cs ++ rest)) blanks [] c)) ∙ limit_read h ((front ++ blanks) ++ 32 ∷ []) place n d) where
    apart : going s b idle ≡ over place → ⊥
    apart e = cc

  abbrev pub Wrong : List ℕ → ℕ → Type 0
  Wrong bytes place =
      (front : List ℕ) × (cs : List ℕ) × (rest : List ℕ) × (bytes ≡ front ++ (cs ++ rest)) × IsOfToken cs × (runs_on front cs ≡ false)
      × Begins h (front ++ 32 ∷ []) × HasNoLimit h (front ++ 32 ∷ []) × NoneGoesOn h front cs rest × (place ≡ h.place + length front)

  pub wrong_told : (bytes : List ℕ) (place : ℕ) → from_start bytes ≡ malformed place → Wrong bytes place
  wrong_told bytes place e = by (told bytes h.place (Start h) none_built (n, refl)) where
    place_in : ℕ → State → ℕ
    place_in m (going s b p) = m
    place_in m (malformed p) = p
    place_in m (over p) = m
    place_in m (whole end s b) = m

    from : (front : List ℕ) (ts : List Token) (next : List ℕ) (s : Scan) (b : Built) (at : ℕ) → bytes ≡ front ++ next → at ≡ h.place + length front → Taken front ts next s b → is_whole s.want ≡ false → Last s b next at (after h.place (start h.number h.second) bytes) → Wrong bytes place
    from front ts next s b at f p r w (l_open blanks cs o k c i q) = absurd (apart (sym e ∙ q)) where
      apart : malformed place ≡ going s b o → ⊥
      apart g = cc
    from front ts next s b at f p r w (l_over blanks cs rest t k c sp j o g q) = absurd (apart (sym e ∙ q)) where
      apart : malformed place ≡ over (at + length blanks) → ⊥
      apart v = cc
    from front ts next s b at f p r w (l_whole blanks cs rest t s1 a end k c i j x g z q) = absurd (apart (sym e ∙ q)) where
      apart : malformed place ≡ whole end s1 (applied a b) → ⊥
      apart v = cc
    from front ts next s b at f p r w (l_wrong blanks cs rest k c o i q) =
        let r2 = subst (λ l. Taken front ts l s b) k r in
        let len = length-append front blanks in
        let spot : at + length blanks ≡ h.place + length (front ++ blanks) = omega (arith, p, len) in
        let stops = front_stops ts front blanks (cs ++ rest) (Start h) none_built s b r2 c in
        let seam = ap (runs_on (front ++ blanks)) o.2 ∙ runs_first (front ++ blanks) o.0 o.1 (o.1 ++ rest) ∙ ap (λ l. runs_on (front ++ blanks) (l ++ rest)) (sym o.2) ∙ stops in (
          front ++ blanks,
          cs,
          rest,
          f ∙ ap (λ l. front ++ l) k ∙ sym (append_assoc front blanks (cs ++ rest)),
          o,
          seam,
          front_begins h ts front (blanks ++ (cs ++ rest)) blanks s b r2 c w (same_number ts front (blanks ++ (cs ++ rest)) (Start h) none_built s b r2),
          no_limit front ts blanks cs rest s b r2 c w,
          none_goes_on front ts blanks cs rest s b r2 c w o (subst (λ m. IsRefused s b m cs rest) spot i),
          ap (place_in place) (sym e ∙ q) ∙ spot,
        )

    by : Told bytes h.place (Start h) none_built (after h.place (start h.number h.second) bytes) → Wrong bytes place
    by r = from r.0 r.1 r.2 r.3 r.4 r.5 r.6 r.7 r.8 r.10 r.9

  -- a block that is read whole

  abbrev pub Begun : List ℕ → Type 0
  Begun bytes = (bs : List ℕ) × (rest : List ℕ) × (bytes ≡ bs ++ rest) × IsNext h bs × (runs_on bs rest ≡ false)

  whole_next : (front : List ℕ) (ts : List Token) (blanks cs rest : List ℕ) (t : Token) (s s1 : Scan) (a : Action) (b : Built) → Taken front ts (blanks ++ (cs ++ rest)) s b → AreAll is_blank blanks → IsSpelling cs t → IsExact t s.want cs → give s t ≡ givens.On s1 a → is_whole s1.want ≡ true → IsNext h (front ++ (blanks ++ cs))
  whole_next front ts blanks cs rest t s s1 a b r c sp x g z =
      let some = token_first t cs sp in
      let zs = some_joined blanks cs (some.0, some.1, some.2) in
      let done = subst (λ want. Tail h.number s1.second want s1.depth []) (sym (whole_is s1.want z)) ([], refl, refl) in
      let tail = step_back h.number s t s1 a blanks cs [] (same_number ts front (blanks ++ (cs ++ rest)) (Start h) none_built s b r) g (c, sp, none t, x) done in
      let joins = λ (u : Token) (xs : List ℕ) (e : EndsAt u (xs ++ (blanks ++ (cs ++ rest)))). subst (λ l. EndsAt u (xs ++ l)) (append_assoc blanks cs []) (joins_common (blanks ++ cs) rest [] zs u xs (subst (λ l. EndsAt u (xs ++ l)) (sym (append_assoc blanks cs rest)) e)) in
      subst (λ l. IsNext h (front ++ (blanks ++ l))) (append-nil cs) (is_next h (front ++ (blanks ++ (cs ++ []))) (tail_back h.number ts front (blanks ++ (cs ++ rest)) (blanks ++ (cs ++ [])) (Start h) none_built s b refl r joins tail)) where
        none : (u : Token) → EndsAt u []
        none u = tt

  pub whole_told : (bytes : List ℕ) (end : ℕ) (s2 : Scan) (b2 : Built) → from_start bytes ≡ whole end s2 b2 → Begun bytes
  whole_told bytes end s2 b2 e = by (told bytes h.place (Start h) none_built (n, refl)) where
    from : (front : List ℕ) (ts : List Token) (next : List ℕ) (s : Scan) (b : Built) (at : ℕ) → bytes ≡ front ++ next → Taken front ts next s b → Last s b next at (after h.place (start h.number h.second) bytes) → Begun bytes
    from front ts next s b at f r (l_open blanks cs o k c i q) = absurd (apart (sym e ∙ q)) where
      apart : whole end s2 b2 ≡ going s b o → ⊥
      apart g = cc
    from front ts next s b at f r (l_over blanks cs rest t k c sp j o g q) = absurd (apart (sym e ∙ q)) where
      apart : whole end s2 b2 ≡ over (at + length blanks) → ⊥
      apart v = cc
    from front ts next s b at f r (l_wrong blanks cs rest k c o i q) = absurd (apart (sym e ∙ q)) where
      apart : whole end s2 b2 ≡ malformed (at + length blanks) → ⊥
      apart v = cc
    from front ts next s b at f r (l_whole blanks cs rest t s1 a stop k c sp j x g z q) =
        let some = token_first t cs sp in
        let seam = ap (λ l. runs_on (front ++ (blanks ++ l)) rest) some.2 ∙ ap (λ l. runs_on l rest) (sym (append_assoc front blanks (some.0 ∷ some.1))) ∙ runs_behind (front ++ blanks) some.0 some.1 rest ∙ ap (λ l. runs_on l rest) (sym some.2) ∙ ended_stops t cs rest sp j in
        (front ++ (blanks ++ cs), rest, f ∙ ap (λ l. front ++ l) (k ∙ sym (append_assoc blanks cs rest)) ∙ sym (append_assoc front (blanks ++ cs) rest), whole_next front ts blanks cs rest t s s1 a b (subst (λ l. Taken front ts l s b) k r) c sp x g z, seam)

    by : Told bytes h.place (Start h) none_built (after h.place (start h.number h.second) bytes) → Begun bytes
    by r = from r.0 r.1 r.2 r.3 r.4 r.5 r.6 r.8 r.9
