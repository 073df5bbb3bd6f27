-- A reader with as much room for nesting as there are tokens, from readers with some room: no text has more levels than tokens,
-- so such a reader never runs out of room.
use Rattle.std.proofs.Common.{◌≡◌, ℕ, zero, suc, ◌+◌, ◌≤◌, ◌<◌, Bool, true, List, [], ◌∷◌, ◌++◌, length, length-append, Ok, Err, inl, inr, refl, sym, ap, subst, ◌∙◌, arith, append-nil}
use Rattle.std.specs.Prelude.{◌-◌, Result}
use Rattle.st_tokens.specs.Stream.{◌++>◌, Lexeme, Stream, ends, breaks, more}
use Rattle.st_reading.specs.declared.sign.Sign.{Sign}
use Rattle.st_reading.specs.declared.sign.Sign.TheVariants as signs
use Rattle.st_reading.specs.Reading.{Stop, syntax, broken, other, Read, ahead, size, refusal}
use Rattle.st_reading.specs.Steady.{head, token, Follows, Viable, Cause, refused, over, SteadyAt, both, stops}
use Rattle.st_reading.proofs.Streams.{append_stream, more_parts}
use Rattle.st_reading.proofs.Soundness.{values}
use Rattle.st_reading.proofs.Stops.{Compared, shorter, longer, compare}
use Rattle.st_reading.proofs.Whiles.{stream_size}
use Rattle.expression_parser.proofs.ExpressionLaw.{larger}

pub larger_is : (n i : ℕ) → larger n i ≡ suc (n + i)
larger_is zero i = omega arith
larger_is (suc n) i = omega (arith, larger_is n i)

larger_by : (n m : ℕ) → n < m → larger n ((m - n) - 1) ≡ m
larger_by n m less = omega (arith, larger_is n ((m - n) - 1), less)

pub never_other : {X : Type 0} (s : Stream) (x : X) → refusal s ≡ other x → ⊥
never_other (ends p) x h = cc
never_other (breaks f) x h = cc
never_other (more t s) x h = cc

same_fault : {X A : Type 0} (o : Read X A) (f g : Stop X) → o ≡ Err f → o ≡ Err g → f ≡ g
same_fault o f g h k = cc

not_both : {X A : Type 0} (o : Read X A) (x : A × Stream) (f : Stop X) → o ≡ Ok x → o ≡ Err f → ⊥
not_both o x f h k = absurd cc

-- what stands at the front of these tokens is there whatever follows
fronts : (c : List Lexeme) (t u : Lexeme) (a b z : Stream) → more t a ≡ c ++> more u b → (m : Stream) × (c ++> more u z ≡ more t m)
fronts [] t u a b z h = let m = more_parts t u a b h in (z, ap (λ w. more w z) (sym m.0))
fronts (x ∷ c) t u a b z h = let m = more_parts t x a (c ++> more u b) h in (c ++> more u z, ap (λ w. more w (c ++> more u z)) (sym m.0))

module _ {X A : Type 0} (front calm : Sign → Bool) (quiet : calm signs.Nothing ≡ true) (reader : ℕ → Stream → Read X A) (law : (n : ℕ) (s : Stream) → SteadyAt front calm (reader n) (λ i. reader (larger n i)) s) where
  -- With room for n levels reading runs out of room at a token, and with more it goes on.
  pub record Passes (n : ℕ) (s : Stream) : Type 0 where
    pub before : List Lexeme
    pub passing : Lexeme
    pub after : Stream
    pub limit : X
    pub is_cut : s ≡ before ++> more passing after
    pub stuck : (m : Stream) → reader n (before ++> more passing m) ≡ Err (other limit)
    pub viable : (i : ℕ) → Viable front calm (reader (larger n i)) (before ++ passing ∷ [])

  -- or it reads on whatever room there is, or refuses what stands there
  pub data Comes (n : ℕ) (s : Stream) : Type 0 where
    reads : (ts : List Lexeme) (x : A) (rest : Stream) → s ≡ ts ++> rest → ((after : Stream) → Follows calm rest after → reader n (ts ++> after) ≡ Ok (x, after)) → ((i : ℕ) (after : Stream) → Follows calm rest after → reader (larger n i) (ts ++> after) ≡ Ok (x, after)) → Comes n s
    refuses : (ts : List Lexeme) (rest : Stream) → s ≡ ts ++> rest → ((after : Stream) → head after ≡ head rest → reader n (ts ++> after) ≡ Err (refusal rest)) → ((i : ℕ) (after : Stream) → head after ≡ head rest → reader (larger n i) (ts ++> after) ≡ Err (refusal rest))
        → ((i : ℕ) → Viable front calm (reader (larger n i)) ts) → Comes n s
    passes : Passes n s → Comes n s

  pub comes : (n : ℕ) (s : Stream) → Comes n s
  comes n s = at_law (law n s)
    where
      at_cause : (ts : List Lexeme) (f : Stop X) (rest : Stream) → s ≡ ts ++> rest → ((after : Stream) → head after ≡ head rest → reader n (ts ++> after) ≡ Err f) → ((i : ℕ) → Viable front calm (reader (larger n i)) ts) → Cause front calm (λ i. reader (larger n i)) ts f rest → Comes n s
      at_cause ts f rest is same v (refused e each) = refuses ts rest is (λ after h. same after h ∙ ap Err e) (λ i after h. each i after h ∙ ap Err e) v
      at_cause ts f rest is same v (over x t after e next v2) =
          passes (record { before = ts; passing = t; after = after; limit = x; is_cut = is ∙ ap (λ m. ts ++> m) next; stuck = λ m. same (more t m) (sym (ap head next)) ∙ ap Err e; viable = v2 })

      at_law : SteadyAt front calm (reader n) (λ i. reader (larger n i)) s → Comes n s
      at_law (both ts x rest is go1 go2) = reads ts x rest is go1 go2
      at_law (stops ts f rest is same v cause) = at_cause ts f rest is same v cause

  -- MORE ROOM
  deeper_read : (n i : ℕ) (s : Stream) (x : A) (rest : Stream) → reader n s ≡ Ok (x, rest) → reader (larger n i) s ≡ Ok (x, rest)
  deeper_read n i s x rest h = at_comes (comes n s)
    where
      at_comes : Comes n s → reader (larger n i) s ≡ Ok (x, rest)
      at_comes (reads ts y after is go1 go2) =
          let v = values (reader n s) y x after rest (ap (reader n) is ∙ go1 after (inl refl)) h in
          ap (reader (larger n i)) is ∙ go2 i after (inl refl) ∙ ap (λ z. Ok (z, after)) v.0 ∙ ap (λ z. Ok (x, z)) v.1
      at_comes (refuses ts after is no1 no2 v) = absurd (not_both (reader n s) (x, rest) (refusal after) h (ap (reader n) is ∙ no1 after refl))
      at_comes (passes p) = absurd (not_both (reader n s) (x, rest) (other p.limit) h (ap (reader n) p.is_cut ∙ p.stuck p.after))

  pub more_read : (n m : ℕ) → n ≤ m → (s : Stream) (x : A) (rest : Stream) → reader n s ≡ Ok (x, rest) → reader m s ≡ Ok (x, rest)
  more_read n m le s x rest h = at_size (m - n) refl
    where
      at_size : (k : ℕ) → m - n ≡ k → reader m s ≡ Ok (x, rest)
      at_size zero e = let same : m ≡ n = omega (arith, le, e) in ap (λ z. reader z s) same ∙ h
      at_size (suc k) e = ap (λ z. reader z s) (sym (larger_by n m (omega (arith, e)))) ∙ deeper_read n ((m - n) - 1) s x rest h

  -- THE TOKEN THAT PASSES STANDS BEHIND AT LEAST AS MANY TOKENS
  later : (n : ℕ) (s : Stream) (p : Passes n s) (q : Passes (suc n) s) → length p.before < length q.before
  later n s p q = at_compared (compare q.before p.before (more q.passing q.after) (more p.passing p.after) (sym q.is_cut ∙ p.is_cut))
    where
      v : Viable front calm (reader (suc n)) (p.before ++ p.passing ∷ [])
      v = subst (λ m. Viable front calm (reader m) (p.before ++ p.passing ∷ [])) (omega (arith, larger_is n 0)) (p.viable 0)

      beyond : Stream
      beyond = v.others ++> ends 0

      -- with one level more reading goes on over that token, and so doesn't stop at it or before
      goes_on : (c : List Lexeme) → p.before ≡ q.before ++ c → more q.passing q.after ≡ c ++> more p.passing p.after → ⊥
      goes_on c e k =
          let f = fronts c q.passing p.passing q.after p.after beyond k in
          let same : (p.before ++ p.passing ∷ []) ++> beyond ≡ q.before ++> more q.passing f.0 = append_stream p.before (p.passing ∷ []) beyond ∙ ap (λ (z : List Lexeme). z ++> more p.passing beyond) e ∙ append_stream q.before c (more p.passing beyond) ∙ ap (λ m. q.before ++> m) f.1 in
          not_both (reader (suc n) ((p.before ++ p.passing ∷ []) ++> beyond)) (v.value, ends 0) (other q.limit) (v.reads (ends 0) quiet) (ap (reader (suc n)) same ∙ q.stuck f.0)

      at_compared : Compared q.before p.before (more q.passing q.after) (more p.passing p.after) → length p.before < length q.before
      at_compared (shorter c e k) = absurd (goes_on c e k)
      at_compared (longer u c e k) = omega (arith, ap length e, length-append p.before (u ∷ c))

  -- whether there is such a token with less room, and where
  earlier : (n : ℕ) (s : Stream) (q : Passes (suc n) s) → Comes n s → (p : Passes n s) × (length p.before < length q.before)
  earlier n s q (reads ts x rest is go1 go2) =
      let e : reader (suc n) s ≡ Ok (x, rest) = ap (λ m. reader m s) (omega (arith, larger_is n 0)) ∙ ap (reader (larger n 0)) is ∙ go2 0 rest (inl refl) in
      absurd (not_both (reader (suc n) s) (x, rest) (other q.limit) e (ap (reader (suc n)) q.is_cut ∙ q.stuck q.after))
  earlier n s q (refuses ts rest is no1 no2 v) =
      let e : reader (suc n) s ≡ Err (refusal rest) = ap (λ m. reader m s) (omega (arith, larger_is n 0)) ∙ ap (reader (larger n 0)) is ∙ no2 0 rest refl in
      absurd (never_other rest q.limit (same_fault (reader (suc n) s) (refusal rest) (other q.limit) e (ap (reader (suc n)) q.is_cut ∙ q.stuck q.after)))
  earlier n s q (passes p) = (p, later n s p q)

  many_before : (n : ℕ) (s : Stream) (p : Passes n s) → n ≤ length p.before
  many_before zero s p = omega arith
  many_before (suc n) s p = let e = earlier n s p (comes n s) in omega (arith, many_before n s e.0, e.1)

  pub none_passes : (n : ℕ) (s : Stream) → size s ≤ n → Passes n s → ⊥
  none_passes n s le p = absurd (omega (arith, many_before n s p, stream_size p.before (more p.passing p.after), ap size p.is_cut, le))

  -- AS MUCH ROOM AS THERE ARE TOKENS
  pub unlimited : Stream → Read X A
  unlimited s = reader (size s) s

  pub unlimited_is : (s : Stream) → unlimited s ≡ reader (size s) s
  unfolding unlimited
  unlimited_is s = refl

  -- more room changes nothing
  with_room : (n i : ℕ) (s : Stream) → size s ≤ n → reader (larger n i) s ≡ reader n s
  with_room n i s le = at_comes (comes n s)
    where
      at_comes : Comes n s → reader (larger n i) s ≡ reader n s
      at_comes (reads ts x rest is go1 go2) = ap (reader (larger n i)) is ∙ go2 i rest (inl refl) ∙ sym (ap (reader n) is ∙ go1 rest (inl refl))
      at_comes (refuses ts rest is no1 no2 v) = ap (reader (larger n i)) is ∙ no2 i rest refl ∙ sym (ap (reader n) is ∙ no1 rest refl)
      at_comes (passes p) = absurd (none_passes n s le p)

  pub enough : (n : ℕ) (s : Stream) → size s ≤ n → reader n s ≡ unlimited s
  unfolding unlimited
  enough n s le = at_size (n - size s) refl
    where
      at_size : (k : ℕ) → n - size s ≡ k → reader n s ≡ reader (size s) s
      at_size zero e = ap (λ m. reader m s) (omega (arith, le, e))
      at_size (suc k) e = ap (λ m. reader m s) (sym (larger_by (size s) n (omega (arith, e)))) ∙ with_room (size s) ((n - size s) - 1) s (omega arith)

  -- what is read with some room is read
  pub read_so : (n : ℕ) (s : Stream) (x : A) (rest : Stream) → reader n s ≡ Ok (x, rest) → unlimited s ≡ Ok (x, rest)
  read_so n s x rest h = sym (enough (n + size s) s (omega arith)) ∙ more_read n (n + size s) (omega arith) s x rest h

  -- and what is refused with more room than some, whatever it is, is refused
  pub large_enough : (n : ℕ) (s : Stream) (o : Read X A) → ((i : ℕ) → reader (larger n i) s ≡ o) → unlimited s ≡ o
  large_enough n s o h = sym (enough (larger n (size s)) s (omega (arith, larger_is n (size s)))) ∙ h (size s)

  pub viable_so : (n : ℕ) (ts : List Lexeme) → Viable front calm (reader n) ts → Viable front calm unlimited ts
  viable_so n ts v = record { others = v.others; spelled = v.spelled; value = v.value; begins = v.begins; reads = λ after h. read_so n (ts ++> (v.others ++> after)) v.value after (v.reads after h) }

  pub unlimited_law : (s : Stream) → SteadyAt {I = Unit {0}} front calm unlimited (λ i. unlimited) s
  unlimited_law s = at_comes (comes (size s) s)
    where
      at_comes : Comes (size s) s → SteadyAt {I = Unit {0}} front calm unlimited (λ i. unlimited) s
      at_comes (reads ts x rest is go1 go2) =
          let go : (after : Stream) → Follows calm rest after → unlimited (ts ++> after) ≡ Ok (x, after) = λ after h. large_enough (size s) (ts ++> after) (Ok (x, after)) (λ i. go2 i after h) in
          both ts x rest is go (λ i after h. go after h)
      at_comes (refuses ts rest is no1 no2 v) =
          let not_so : (after : Stream) → head after ≡ head rest → unlimited (ts ++> after) ≡ Err (refusal rest) = λ after h. large_enough (size s) (ts ++> after) (Err (refusal rest)) (λ i. no2 i after h) in
          stops ts (refusal rest) rest is not_so (λ i. viable_so (larger (size s) 0) ts (v 0)) (refused refl (λ i after h. not_so after h))
      at_comes (passes p) = absurd (none_passes (size s) s (omega arith) p)

  -- no fault but a refusal
  pub refused_only : (s : Stream) (f : Stop X) → unlimited s ≡ Err f → (ts : List Lexeme) × (rest : Stream) × (s ≡ ts ++> rest) × (f ≡ refusal rest)
  unfolding unlimited
  refused_only s f h = at_comes (comes (size s) s)
    where
      at_comes : Comes (size s) s → (ts : List Lexeme) × (rest : Stream) × (s ≡ ts ++> rest) × (f ≡ refusal rest)
      at_comes (reads ts x rest is go1 go2) = absurd (not_both (reader (size s) s) (x, rest) f (ap (reader (size s)) is ∙ go1 rest (inl refl)) h)
      at_comes (refuses ts rest is no1 no2 v) = (ts, rest, is, same_fault (reader (size s) s) f (refusal rest) h (ap (reader (size s)) is ∙ no1 rest refl))
      at_comes (passes p) = absurd (none_passes (size s) s (omega arith) p)

  -- WHERE IT PASSES
  -- without a limit reading goes on over the token
  pub passed_on : (n : ℕ) (s : Stream) (p : Passes n s) → Viable front calm unlimited (p.before ++ p.passing ∷ [])
  passed_on n s p = viable_so (larger n 0) (p.before ++ p.passing ∷ []) (p.viable 0)

  -- what is refused within some room is refused without a limit
  pub refused_so : (n : ℕ) (s : Stream) (ts : List Lexeme) (rest : Stream) → s ≡ ts ++> rest → ((i : ℕ) (after : Stream) → head after ≡ head rest → reader (larger n i) (ts ++> after) ≡ Err (refusal rest)) → unlimited s ≡ Err (refusal rest)
  refused_so n s ts rest is each = ap unlimited is ∙ large_enough n (ts ++> rest) (Err (refusal rest)) (λ i. each i rest refl)
