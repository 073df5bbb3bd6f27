-- The first fault, and the longest text, of a reader that has its law.
use Rattle.std.proofs.Common.{◌≡◌, ℕ, Bool, true, List, [], ◌∷◌, ◌++◌, Ok, Err, inl, refl, sym, ap, subst, ◌∙◌, append-nil, append_assoc}
use Rattle.st_tokens.specs.Stream.{◌++>◌, Lexeme, Stream, ends, breaks, more}
use Rattle.st_reading.specs.declared.sign.Sign.{Sign}
use Rattle.st_reading.specs.declared.sign.Sign.TheVariants as signs
use Rattle.st_reading.specs.Reading.{Stop, syntax, broken, other, Read, ◌>>=◌, refusal, then_reads, gives, at_end, whole as all_of}
use Rattle.st_reading.specs.Steady.{head, Viable, Cause, refused, over, SteadyAt, both, stops}
use Rattle.st_reading.specs.Spelling.{Sound}
use Rattle.st_reading.specs.Theorem.{Begins, GoesOn, IsStuck, IsFirst, IsMet}
use Rattle.st_reading.proofs.Streams.{append_stream, more_parts, same_text, same_cut}
use Rattle.st_reading.proofs.Soundness.{values}
use Rattle.st_reading.proofs.Spelled.{none_spelled}

module _ {I X A : Type 0} (front calm : Sign → Bool) (quiet : calm signs.Nothing ≡ true) (r : Stream → Read X A) (p : I → Stream → Read X A) (i0 : I) (L : I → List Lexeme → A → Type 0)
    (sound : (i : I) → Sound (p i) (L i)) (whole : (i : I) (ts : List Lexeme) (x : A) (q : ℕ) → L i ts x → p i (ts ++> ends q) ≡ Ok (x, ends q)) where
  -- the language of all the readers p together
  abbrev pub Some_of : List Lexeme → A → Type 0
  Some_of ts x = (i : I) × L i ts x

  begins : (ts : List Lexeme) (i : I) → Viable front calm (p i) ts → Begins Some_of ts
  begins ts i v =
      let c = sound i (ts ++> (v.others ++> ends 0)) v.value (ends 0) (v.reads (ends 0) quiet) in
      let e = same_text (ts ++ v.others) c.text 0 (append_stream ts v.others (ends 0) ∙ c.is) in
      (v.others, v.spelled, v.value, (i, subst (λ (z : List Lexeme). L i z v.value) (sym e) c.spells))

  whole_over : (ts us : List Lexeme) (t : Lexeme) (x : A) (i : I) → L i ((ts ++ t ∷ []) ++ us) x → p i (ts ++> more t (us ++> ends 0)) ≡ Ok (x, ends 0)
  whole_over ts us t x i l =
      let e : ((ts ++ t ∷ []) ++ us) ++> ends 0 ≡ ts ++> more t (us ++> ends 0) = append_stream (ts ++ t ∷ []) us (ends 0) ∙ append_stream ts (t ∷ []) (us ++> ends 0) in
      ap (p i) (sym e) ∙ whole i ((ts ++ t ∷ []) ++ us) x 0 l

  -- no text goes on over the token
  never : (ts : List Lexeme) (t : Lexeme) (f : Stop X) → ((i : I) (after : Stream) → p i (ts ++> more t after) ≡ Err f) → GoesOn Some_of (ts ++ t ∷ []) → ⊥
  never ts t f refuses b =
      let bad = refuses b.2.0 (b.0 ++> ends 0) in
      let good = whole_over ts b.0 t b.1 b.2.0 b.2.1 in
      cc

  no_text : (ts : List Lexeme) (q : ℕ) (f : Stop X) → ((i : I) → p i (ts ++> ends q) ≡ Err f) → (x : A) → Some_of ts x → ⊥
  no_text ts q f refuses x l = let bad = refuses l.0 in let good = whole l.0 ts x q l.1 in cc

  stuck_at : (ts : List Lexeme) (rest : Stream) → ((i : I) (after : Stream) → head after ≡ head rest → p i (ts ++> after) ≡ Err (refusal rest)) → IsStuck Some_of ts (refusal {X = X} rest) rest
  stuck_at ts (ends q) same = (refl, no_text ts q (syntax q) (λ i. same i (ends q) refl))
  stuck_at ts (breaks f) same = refl
  stuck_at ts (more t s) same = (refl, never ts t (syntax t.start) (λ i after. same i (more t after) refl))

  stuck : (ts : List Lexeme) (f : Stop X) (rest : Stream) → Cause front calm p ts f rest → IsStuck Some_of ts f rest
  stuck ts f rest (refused is same) = subst (λ g. IsStuck Some_of ts g rest) (sym is) (stuck_at ts rest (λ i after h. same i after h ∙ ap Err is))
  stuck ts f rest (over x t after is next v) = subst (λ g. IsStuck Some_of ts g rest) (sym is) (t, after, next, begins (ts ++ t ∷ []) i0 (v i0))

  pub first_fault : (s : Stream) (f : Stop X) → SteadyAt front calm r p s → r s ≡ Err f → IsFirst Some_of s f
  first_fault s f (both ts x rest e go1 go2) h = let good : r s ≡ Ok (x, rest) = ap r e ∙ go1 rest (inl refl) in cc
  first_fault s f (stops ts g rest e same v cause) h =
      let bad : r s ≡ Err g = ap r e ∙ same rest refl in
      let is : g ≡ f = cc in
      record { text = ts; rest = rest; is = e; begins = begins ts i0 (v i0); stuck = subst (λ z. IsStuck Some_of ts z rest) is (stuck ts g rest cause) }

  -- what is read, read by all of them
  pub read_by_all : (s : Stream) (x : A) (rest : Stream) → SteadyAt front calm r p s → r s ≡ Ok (x, rest) → (i : I) → p i s ≡ Ok (x, rest)
  read_by_all s x rest (both ts y m e go1 go2) h i =
      let good : r s ≡ Ok (y, m) = ap r e ∙ go1 m (inl refl) in
      ap (p i) e ∙ go2 i m (inl refl) ∙ sym good ∙ h
  read_by_all s x rest (stops ts f m e same v cause) h i = let bad : r s ≡ Err f = ap r e ∙ same m refl in cc

  -- no longer text is spelled
  pub longest : (s : Stream) (x : A) (rest : Stream) → SteadyAt front calm r p s → r s ≡ Ok (x, rest) → (ts : List Lexeme) → s ≡ ts ++> rest → (t : Lexeme) (after : Stream) (us : List Lexeme) (y : A) → rest ≡ more t after → Some_of (ts ++ t ∷ us) y → ⊥
  longest s x rest (stops ts0 f m e same v cause) h ts is t after us y next l = let bad : r s ≡ Err f = ap r e ∙ same m refl in cc
  longest s x rest (both ts0 z m e go1 go2) h ts is t after us y next l =
      let got = values (r s) z x m rest (ap r e ∙ go1 m (inl refl)) h in
      let same_head : head (more t (us ++> ends 0)) ≡ head m = ap head (sym next ∙ sym got.1) in
      let part = go2 l.0 (more t (us ++> ends 0)) (inl same_head) in
      let good = whole l.0 (ts ++ t ∷ us) y 0 l.1 in
      let cut : ts0 ≡ ts = same_cut ts0 ts rest (ap (λ w. ts0 ++> w) (sym got.1) ∙ sym e ∙ is) in
      let part2 : p l.0 ((ts ++ t ∷ us) ++> ends 0) ≡ Ok (z, more t (us ++> ends 0)) = ap (p l.0) (append_stream ts (t ∷ us) (ends 0) ∙ ap (λ (w : List Lexeme). w ++> more t (us ++> ends 0)) (sym cut)) ∙ part in
      let v = values (p l.0 ((ts ++ t ∷ us) ++> ends 0)) y z (ends 0) (more t (us ++> ends 0)) good part2 in
      let bad : ends 0 ≡ more t (us ++> ends 0) = v.1 in
      cc

  -- A WHOLE TEXT, WITH NOTHING BEHIND IT
  at_first : (s : Stream) (f : Stop X) → SteadyAt front calm r p s → (o : Read X A) → o ≡ r s → (o >>= λ x. then_reads at_end (λ e. gives x.0) x.1) ≡ Err f → IsFirst Some_of s f
  unfolding at_end
  at_first s f law (Err g) e h = let same : g ≡ f = cc in first_fault s f law (sym e ∙ ap Err same)
  at_first s f law (Ok (x, ends q)) e h = cc
  at_first s f law (Ok (x, breaks g)) e h =
      let c = sound i0 s x (breaks g) (read_by_all s x (breaks g) law (sym e) i0) in
      let same : broken g ≡ f = cc in
      record { text = c.text; rest = breaks g; is = c.is; begins = ([], none_spelled, x, (i0, subst (λ (z : List Lexeme). L i0 z x) (sym (append-nil c.text)) c.spells)); stuck = subst (λ z. IsStuck Some_of c.text z (breaks g)) same refl }
  at_first s f law (Ok (x, more t after)) e h =
      let c = sound i0 s x (more t after) (read_by_all s x (more t after) law (sym e) i0) in
      let same : syntax t.start ≡ f = cc in
      record {
        text = c.text;
        rest = more t after;
        is = c.is;
        begins = ([], none_spelled, x, (i0, subst (λ (z : List Lexeme). L i0 z x) (sym (append-nil c.text)) c.spells));
        stuck = subst (λ z. IsStuck Some_of c.text z (more t after)) same (refl, λ b. longest s x (more t after) law (sym e) c.text c.is t after b.0 b.1 refl (subst (λ (z : List Lexeme). Some_of z b.1) (append_assoc c.text (t ∷ []) b.0) b.2));
      }

  pub whole_first : (s : Stream) (f : Stop X) → SteadyAt front calm r p s → all_of r s ≡ Err f → IsFirst Some_of s f
  whole_first s f law h = at_first s f law (r s) refl h

  -- A LIMIT IS MET, where no text of W y is refused with y
  module _ (W : X → List Lexeme → A → Type 0) (against : (y : X) (ts : List Lexeme) (x : A) → W y ts x → r (ts ++> ends 0) ≡ Err (other y) → ⊥) where
    no_refusal : (rest : Stream) (f : Stop X) (y : X) → f ≡ refusal rest → f ≡ other y → ⊥
    no_refusal (ends q) f y e h = let k : syntax q ≡ other y = sym e ∙ h in cc
    no_refusal (breaks g) f y e h = let k : broken g ≡ other y = sym e ∙ h in cc
    no_refusal (more t s) f y e h = let k : syntax t.start ≡ other y = sym e ∙ h in cc

    none_within : (ts : List Lexeme) (t : Lexeme) (f : Stop X) (y : X) → f ≡ other y → ((after : Stream) → r (ts ++> more t after) ≡ Err f) → GoesOn (W y) (ts ++ t ∷ []) → ⊥
    none_within ts t f y is refuses b =
        let e : ((ts ++ t ∷ []) ++ b.0) ++> ends 0 ≡ ts ++> more t (b.0 ++> ends 0) = append_stream (ts ++ t ∷ []) b.0 (ends 0) ∙ append_stream ts (t ∷ []) (b.0 ++> ends 0) in
        against y ((ts ++ t ∷ []) ++ b.0) b.1 b.2 (ap r e ∙ refuses (b.0 ++> ends 0) ∙ ap Err is)

    met_for : (ts : List Lexeme) (f : Stop X) (rest s : Stream) (y : X) → s ≡ ts ++> rest → f ≡ other y → ((after : Stream) → head after ≡ head rest → r (ts ++> after) ≡ Err f) → Cause front calm p ts f rest → IsMet Some_of (W y) s
    met_for ts f rest s y e h same (refused is k) = absurd (no_refusal rest f y is h)
    met_for ts f rest s y e h same (over x t after is next v) = record {
      text = ts;
      token = t;
      after = after;
      is = e ∙ ap (λ m. ts ++> m) next;
      begins = begins (ts ++ t ∷ []) i0 (v i0);
      none = none_within ts t f y h (λ z. same (more t z) (sym (ap head next)));
    }

    met_at : (s : Stream) (f : Stop X) (y : X) → f ≡ other y → r s ≡ Err f → SteadyAt front calm r p s → IsMet Some_of (W y) s
    met_at s f y e h (both ts x rest is go1 go2) = let good : r s ≡ Ok (x, rest) = ap r is ∙ go1 rest (inl refl) in cc
    met_at s f y e h (stops ts g rest is same v cause) =
        let bad : r s ≡ Err g = ap r is ∙ same rest refl in
        let same_fault : g ≡ f = cc in
        met_for ts g rest s y is (same_fault ∙ e) same cause

    by_first : (s : Stream) (y : X) → SteadyAt front calm r p s → (o : Read X A) → o ≡ r s → (o >>= λ x. then_reads at_end (λ e. gives x.0) x.1) ≡ Err (other y) → IsMet Some_of (W y) s
    unfolding at_end
    by_first s y law (Err g) e h = let same : g ≡ other y = cc in met_at s g y same (sym e) law
    by_first s y law (Ok (x, ends q)) e h = cc
    by_first s y law (Ok (x, breaks g)) e h = cc
    by_first s y law (Ok (x, more t after)) e h = cc

    pub limit_met : (s : Stream) (y : X) → SteadyAt front calm r p s → all_of r s ≡ Err (other y) → IsMet Some_of (W y) s
    limit_met s y law h = by_first s y law (r s) refl h

-- THE SAME LANGUAGE
module _ {A : Type 0} (L M : List Lexeme → A → Type 0) (to : (ts : List Lexeme) (x : A) → L ts x → M ts x) (from : (ts : List Lexeme) (x : A) → M ts x → L ts x) where
  stuck_as : {X : Type 0} (ts : List Lexeme) (f : Stop X) (rest : Stream) → IsStuck L ts f rest → IsStuck M ts f rest
  stuck_as ts (broken f) rest h = h
  stuck_as ts (syntax place) (ends end) h = (h.0, λ x l. h.1 x (from ts x l))
  stuck_as ts (syntax place) (breaks f) h = h
  stuck_as ts (syntax place) (more t after) h = (h.0, λ b. h.1 (b.0, b.1, from ((ts ++ t ∷ []) ++ b.0) b.1 b.2))
  stuck_as ts (other x) rest h = (h.0, h.1, h.2, (h.3.0, h.3.1, h.3.2, to ((ts ++ h.0 ∷ []) ++ h.3.0) h.3.2 h.3.3))

  pub first_as : {X : Type 0} (s : Stream) (f : Stop X) → IsFirst L s f → IsFirst M s f
  first_as s f h = record { text = h.text; rest = h.rest; is = h.is; begins = (h.begins.0, h.begins.1, h.begins.2, to (h.text ++ h.begins.0) h.begins.2 h.begins.3); stuck = stuck_as h.text f h.rest h.stuck }

  pub met_as : (W : List Lexeme → A → Type 0) (s : Stream) → IsMet L W s → IsMet M W s
  met_as W s h = record { text = h.text; token = h.token; after = h.after; is = h.is; begins = (h.begins.0, h.begins.1, h.begins.2, to ((h.text ++ h.token ∷ []) ++ h.begins.0) h.begins.2 h.begins.3); none = h.none }

-- what stands behind the first tokens of a whole text
pub further_tokens : (a b : List Lexeme) (q : ℕ) (s : Stream) → a ++> ends q ≡ b ++> s → (c : List Lexeme) × (a ≡ b ++ c) × (s ≡ c ++> ends q)
further_tokens a [] q s h = (a, refl, sym h)
further_tokens [] (u ∷ b) q s h = cc
further_tokens (t ∷ a) (u ∷ b) q s h =
    let m = more_parts t u (a ++> ends q) (b ++> s) h in
    let k = further_tokens a b q s m.1 in
    (k.0, ap (λ w. w ∷ a) m.0 ∙ ap (λ w. u ∷ w) k.1, k.2)

-- a text that is spelled has no fault of the language
module _ {X A : Type 0} (L : List Lexeme → A → Type 0) (x : A) (q : ℕ) where
  unstuck : (text c : List Lexeme) → L (text ++ c) x → (f : Stop X) (rest : Stream) → rest ≡ c ++> ends q → IsStuck L text f rest → (y : X) × (f ≡ other y)
  unstuck text c l (other y) rest e h = (y, refl)
  unstuck text [] l (broken g) rest e h = let k : ends q ≡ breaks g = sym e ∙ h in cc
  unstuck text (t ∷ c) l (broken g) rest e h = let k : more t (c ++> ends q) ≡ breaks g = sym e ∙ h in cc
  unstuck text [] l (syntax place) (ends p) e h = absurd (h.1 x (subst (λ (z : List Lexeme). L z x) (append-nil text) l))
  unstuck text (t ∷ c) l (syntax place) (ends p) e h = cc
  unstuck text c l (syntax place) (breaks g) e h = absurd h
  unstuck text [] l (syntax place) (more u after) e h = cc
  unstuck text (t ∷ c) l (syntax place) (more u after) e h =
      let m = more_parts u t after (c ++> ends q) e in
      absurd (h.1 (c, x, subst (λ (z : List Lexeme). L z x) (ap (λ w. text ++ w ∷ c) (sym m.0) ∙ sym (append_assoc text (u ∷ []) c)) l))

  pub spelled_unstuck : (ts : List Lexeme) → L ts x → (f : Stop X) → IsFirst L (ts ++> ends q) f → (y : X) × (f ≡ other y)
  spelled_unstuck ts l f first =
      let k = further_tokens ts first.text q first.rest first.is in
      unstuck first.text k.0 (subst (λ (z : List Lexeme). L z x) k.1 l) f first.rest k.2 first.stuck
