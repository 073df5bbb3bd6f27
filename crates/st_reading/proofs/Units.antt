-- A unit that is read plainly and judged as a whole, as a formula: what settles it, from the plain reader's law alone.
use Rattle.std.proofs.Common.{◌≡◌, ℕ, Bool, true, false, List, [], ◌∷◌, ◌++◌, Ok, Err, inl, inr, refl, sym, ap, ◌∙◌, arith, append-nil}
use Rattle.std.specs.Prelude.{not, nat_eq}
use Rattle.st_tokens.specs.Stream.{◌++>◌, Lexeme, Stream, ends, breaks, more}
use Rattle.st_reading.specs.declared.sign.Sign.{Sign}
use Rattle.st_reading.specs.declared.sign.Sign.TheVariants as signs
use Rattle.st_reading.specs.Reading.{Stop, Read, ahead, size}
use Rattle.st_reading.specs.Steady.{head, Follows, Viable, SteadyAt, both, stops}
use Rattle.st_reading.proofs.Streams.{append_stream, more_parts}
use Rattle.st_reading.proofs.Soundness.{values}
use Rattle.st_reading.proofs.Judging.{Reader, Settled}
use Rattle.st_reading.proofs.Whiles.{stream_size}
use Rattle.st_reading.proofs.Stops.{Compared, shorter, longer, compare}

abbrev only_left : {X B : Type 0} → Read X B → Bool
only_left (Ok x) = nat_eq (size x.1) 1
only_left (Err f) = false

one_left : (n : ℕ) → nat_eq n 1 ≡ true → n ≡ 1
one_left n h = grind arith

module _ {X B : Type 0} (front calm : Sign → Bool) (quiet : calm signs.Nothing ≡ true) (plain : Reader X B) (law : (s : Stream) → SteadyAt {I = Unit {0}} front calm plain (λ i. plain) s) where
  -- the token behind these is read as well, or refused
  abbrev open_at : List Lexeme → Lexeme → Bool
  open_at ts d = not (only_left (plain (ts ++> more d (ends 0))))

  left_by : (ts : List Lexeme) (d : Lexeme) → open_at ts d ≡ false → (b : B) × (m : Stream) × (plain (ts ++> more d (ends 0)) ≡ Ok (b, m)) × (size m ≡ 1)
  left_by ts d h = at_read (plain (ts ++> more d (ends 0))) refl h
    where
      at_size : (x : B × Stream) → plain (ts ++> more d (ends 0)) ≡ Ok x → (c : Bool) → nat_eq (size x.1) 1 ≡ c → not c ≡ false → (b : B) × (m : Stream) × (plain (ts ++> more d (ends 0)) ≡ Ok (b, m)) × (size m ≡ 1)
      at_size x e true k h = (x.0, x.1, e, one_left (size x.1) k)
      at_size x e false k h = absurd cc

      at_read : (r : Read X B) → plain (ts ++> more d (ends 0)) ≡ r → not (only_left r) ≡ false → (b : B) × (m : Stream) × (plain (ts ++> more d (ends 0)) ≡ Ok (b, m)) × (size m ≡ 1)
      at_read (Ok x) e h = at_size x e (nat_eq (size x.1) 1) refl h
      at_read (Err f) e h = absurd cc

  module _ (ts : List Lexeme) (b : B) (go : (after : Stream) → calm (ahead after) ≡ true → plain (ts ++> after) ≡ Ok (b, after)) where
    -- what is settled is read so far and no further
    settled_reads : (after : Stream) → Settled (open_at ts) after → plain (ts ++> after) ≡ Ok (b, after)
    settled_reads (ends q) h = go (ends q) quiet
    settled_reads (breaks f) h = go (breaks f) quiet
    settled_reads (more d m) h = at_law (law (ts ++> more d (ends 0))) (left_by ts d h)
      where
        at_law : SteadyAt {I = Unit {0}} front calm plain (λ i. plain) (ts ++> more d (ends 0)) → (x : B) × (z : Stream) × (plain (ts ++> more d (ends 0)) ≡ Ok (x, z)) × (size z ≡ 1) → plain (ts ++> more d m) ≡ Ok (b, more d m)
        at_law (stops us f rest is same v cause) l = let bad : plain (ts ++> more d (ends 0)) ≡ Err f = ap plain is ∙ same rest refl in let good = l.2 in absurd cc
        at_law (both us x rest is go1 go2) l =
            let v = values (plain (ts ++> more d (ends 0))) x l.0 rest l.1 (ap plain is ∙ go1 rest (inl refl)) l.2 in
            at_compared us x rest go1 (ap size v.1 ∙ l.3) (compare us ts rest (more d (ends 0)) (sym is))
          where
            at_compared : (us : List Lexeme) (x : B) (rest : Stream) → ((after : Stream) → Follows calm rest after → plain (us ++> after) ≡ Ok (x, after)) → size rest ≡ 1 → Compared us ts rest (more d (ends 0)) → plain (ts ++> more d m) ≡ Ok (b, more d m)
            at_compared us x rest go1 n (shorter [] e k) =
                let same : ts ≡ us = e ∙ append-nil us in
                let v = values (plain (ts ++> ends 0)) b x (ends 0) (ends 0) (go (ends 0) quiet) (ap (λ (z : List Lexeme). plain (z ++> ends 0)) same ∙ go1 (ends 0) (inr quiet)) in
                ap (λ (z : List Lexeme). plain (z ++> more d m)) same ∙ go1 (more d m) (inl (sym (ap head k))) ∙ ap (λ y. Ok (y, more d m)) (sym v.0)
            at_compared us x rest go1 n (shorter (u ∷ c) e k) = absurd (omega (arith, n, ap size k, stream_size (u ∷ c) (more d (ends 0))))
            at_compared us x rest go1 n (longer u c e k) = absurd (omega (arith, n, ap size k, stream_size c rest))

    -- what follows in completions is settled, and what the reader itself stopped at
    settled_by : (d : Lexeme) (m : Stream) → plain (ts ++> more d (ends 0)) ≡ Ok (b, more d (ends 0)) → Settled (open_at ts) (more d m)
    settled_by d m h = rw h refl

    -- over a token that is open, unless the reader refuses it there
    onward : (d : Lexeme) → open_at ts d ≡ true → ((f : Stop X) → ((after : Stream) → head after ≡ head (more d (ends 0)) → plain (ts ++> after) ≡ Err f) → ⊥)
        → (others : List Lexeme) × (x : B) × ((after : Stream) → calm (ahead after) ≡ true → plain ((ts ++ d ∷ []) ++> (others ++> after)) ≡ Ok (x, after))
    onward d h greedy = at_law (law (ts ++> more d (ends 0)))
      where
        not_left : (x : B) → plain (ts ++> more d (ends 0)) ≡ Ok (x, more d (ends 0)) → ⊥
        not_left x e = let no : open_at ts d ≡ false = rw e refl in let bad : true ≡ false = sym h ∙ no in absurd cc

        beyond_ts : (u : Lexeme) (us c : List Lexeme) (rest : Stream) → us ≡ ts ++ u ∷ c → more d (ends 0) ≡ more u (c ++> rest) → us ≡ ts ++ d ∷ []
        beyond_ts u us [] rest e k = let m = more_parts d u (ends 0) rest k in e ∙ ap (λ w. ts ++ w ∷ []) (sym m.0)
        beyond_ts u us (v ∷ c) rest e k = let m = more_parts d u (ends 0) (more v (c ++> rest)) k in let bad : ends 0 ≡ more v (c ++> rest) = m.1 in absurd cc

        read_on : (us : List Lexeme) (x : B) (rest : Stream) → (ts ++> more d (ends 0)) ≡ us ++> rest → ((after : Stream) → Follows calm rest after → plain (us ++> after) ≡ Ok (x, after)) → Compared us ts rest (more d (ends 0))
            → (others : List Lexeme) × (x : B) × ((after : Stream) → calm (ahead after) ≡ true → plain ((ts ++ d ∷ []) ++> (others ++> after)) ≡ Ok (x, after))
        read_on us x rest is go1 (shorter [] e k) = absurd (not_left x (ap plain is ∙ go1 rest (inl refl) ∙ ap (λ z. Ok (x, z)) k))
        read_on us x rest is go1 (shorter (u ∷ c) e k) =
            let one : plain (ts ++> ends 0) ≡ Ok (x, more u (c ++> ends 0)) = ap (λ (z : List Lexeme). plain (z ++> ends 0)) e ∙ ap plain (append_stream us (u ∷ c) (ends 0)) ∙ go1 (more u (c ++> ends 0)) (inl (sym (ap head k))) in
            let v = values (plain (ts ++> ends 0)) b x (ends 0) (more u (c ++> ends 0)) (go (ends 0) quiet) one in
            let bad : ends 0 ≡ more u (c ++> ends 0) = v.1 in
            absurd cc
        read_on us x rest is go1 (longer u c e k) = ([], x, λ after q. ap (λ (z : List Lexeme). plain (z ++> after)) (sym (beyond_ts u us c rest e k)) ∙ go1 after (inr q))

        stop_on : (us : List Lexeme) (f : Stop X) (rest : Stream) → ((after : Stream) → head after ≡ head rest → plain (us ++> after) ≡ Err f) → Viable front calm plain us → Compared us ts rest (more d (ends 0))
            → (others : List Lexeme) × (x : B) × ((after : Stream) → calm (ahead after) ≡ true → plain ((ts ++ d ∷ []) ++> (others ++> after)) ≡ Ok (x, after))
        stop_on us f rest same v (shorter [] e k) = absurd (greedy f (λ after q. ap (λ (z : List Lexeme). plain (z ++> after)) (e ∙ append-nil us) ∙ same after (q ∙ sym (ap head k))))
        stop_on us f rest same v (shorter (u ∷ c) e k) =
            let one : plain (ts ++> ends 0) ≡ Err f = ap (λ (z : List Lexeme). plain (z ++> ends 0)) e ∙ ap plain (append_stream us (u ∷ c) (ends 0)) ∙ same (more u (c ++> ends 0)) (sym (ap head k)) in
            let good = go (ends 0) quiet in
            absurd cc
        stop_on us f rest same v (longer u c e k) = (v.others, v.value, λ after q. ap (λ (z : List Lexeme). plain (z ++> (v.others ++> after))) (sym (beyond_ts u us c rest e k)) ∙ v.reads after q)

        at_law : SteadyAt {I = Unit {0}} front calm plain (λ i. plain) (ts ++> more d (ends 0)) → (others : List Lexeme) × (x : B) × ((after : Stream) → calm (ahead after) ≡ true → plain ((ts ++ d ∷ []) ++> (others ++> after)) ≡ Ok (x, after))
        at_law (both us x rest is go1 go2) = read_on us x rest is go1 (compare us ts rest (more d (ends 0)) (sym is))
        at_law (stops us f rest is same v cause) = stop_on us f rest same (v tt) (compare us ts rest (more d (ends 0)) (sym is))
