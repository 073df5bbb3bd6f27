-- What stands behind an expression that was read: the reader leaves it, or goes on over it.
use Rattle.std.proofs.Common.{◌≡◌, ℕ, ◌≤◌, Bool, true, false, List, [], ◌∷◌, ◌++◌, length, Ok, Err, inl, inr, refl, sym, ap, subst, ◌∙◌, arith, append-nil}
use Rattle.st_tokens.specs.Stream.{◌++>◌, Lexeme, Stream, ends, breaks, more}
use Rattle.st_reading.specs.declared.sign.Sign.{Sign}
use Rattle.st_reading.specs.Faults.{Passed}
use Rattle.st_reading.specs.Sign.{sign_of}
use Rattle.st_reading.specs.Reading.{Stop, syntax, Read, ahead, size, refusal}
use Rattle.st_reading.specs.Steady.{head, Follows, Viable}
use Rattle.st_reading.proofs.Streams.{append_stream, more_parts}
use Rattle.st_reading.proofs.Spelled.{none_spelled}
use Rattle.st_reading.proofs.Soundness.{values}
use Rattle.st_reading.proofs.Stops.{Compared, shorter, longer, compare}
use Rattle.st_reading.proofs.Judging.{Settled}
use Rattle.st_reading.proofs.Whiles.{stream_size}
use Rattle.expression_parser.specs.ExpressionTree.{Expr}
use Rattle.expression_parser.specs.Calm.{calm}
use Rattle.expression_parser.proofs.FormulaTheorems.{quiet}
use Rattle.script_grammar.proofs.Unlimited.{Comes, reads, refuses, passes, comes, enough, large_enough, viable_so, none_passes}
use Rattle.expression_parser.proofs.ExpressionLaw.{larger}
use Rattle.script_grammar.proofs.Greedy.{not_both}
use Rattle.script_grammar.proofs.RawUnits.{Expressions, free}

one_more : (ts us : List Lexeme) (d u : Lexeme) (c : List Lexeme) (rest : Stream) → us ≡ ts ++ u ∷ c → more d (ends 0) ≡ more u (c ++> rest) → us ≡ ts ++ d ∷ []
one_more ts us d u [] rest h k = let m = more_parts d u (ends 0) rest k in h ∙ ap (λ w. ts ++ w ∷ []) (sym m.0)
one_more ts us d u (v ∷ c) rest h k = let m = more_parts d u (ends 0) (more v (c ++> rest)) k in let bad : ends 0 ≡ more v (c ++> rest) = m.1 in absurd cc

-- read so before calm tokens
module _ (x : Expressions) (ts : List Lexeme) (e : Expr) (go : (after : Stream) → calm (ahead after) ≡ true → free x (ts ++> after) ≡ Ok (e, after)) where
  pub data Next (d : Lexeme) : Type 0 where
    leaves_it : ((m : Stream) → free x (ts ++> more d m) ≡ Ok (e, more d m)) → Next d
    goes_over : Viable calm calm (free x) (ts ++ d ∷ []) → Next d

  at_end : free x (ts ++> ends 0) ≡ Ok (e, ends 0)
  at_end = go (ends 0) quiet

  next : (d : Lexeme) → Next d
  next d = at_comes (comes calm calm quiet x.reader x.law room (ts ++> more d (ends 0)))
    where
      room : ℕ
      room = size (ts ++> more d (ends 0))

      read_end : x.reader (size (ts ++> more d (ends 0))) (ts ++> ends 0) ≡ Ok (e, ends 0)
      read_end = enough calm calm quiet x.reader x.law (size (ts ++> more d (ends 0))) (ts ++> ends 0) (omega (arith, stream_size ts (more d (ends 0)), stream_size ts (ends 0))) ∙ at_end

      at_read : (us : List Lexeme) (y : Expr) (rest : Stream) → ((after : Stream) → Follows calm rest after → free x (us ++> after) ≡ Ok (y, after)) → Compared us ts rest (more d (ends 0)) → Next d
      at_read us y rest go1 (shorter [] h k) =
          let same : ts ≡ us = h ∙ append-nil us in
          let v = values (free x (ts ++> ends 0)) y e (ends 0) (ends 0) (ap (λ (z : List Lexeme). free x (z ++> ends 0)) same ∙ go1 (ends 0) (inr quiet)) at_end in
          leaves_it (λ m. ap (λ (z : List Lexeme). free x (z ++> more d m)) same ∙ go1 (more d m) (inl (sym (ap head k))) ∙ ap (λ z. Ok (z, more d m)) v.0)
      at_read us y rest go1 (shorter (u ∷ c) h k) =
          let one : free x (ts ++> ends 0) ≡ Ok (y, more u (c ++> ends 0)) = ap (λ (z : List Lexeme). free x (z ++> ends 0)) h ∙ ap (free x) (append_stream us (u ∷ c) (ends 0)) ∙ go1 (more u (c ++> ends 0)) (inl (sym (ap head k))) in
          let v = values (free x (ts ++> ends 0)) e y (ends 0) (more u (c ++> ends 0)) at_end one in
          let bad : ends 0 ≡ more u (c ++> ends 0) = v.1 in
          absurd cc
      at_read us y rest go1 (longer u c h k) =
          let same = one_more ts us d u c rest h k in
          goes_over (record { others = []; spelled = none_spelled; value = y; begins = λ n after q. q; reads = λ after q. ap (λ (z : List Lexeme). free x (z ++> after)) (sym same) ∙ go1 after (inr q) })

      at_stop : (us : List Lexeme) (rest : Stream) → ((after : Stream) → head after ≡ head rest → x.reader (size (ts ++> more d (ends 0))) (us ++> after) ≡ Err (refusal rest)) → Viable calm calm (free x) us → Compared us ts rest (more d (ends 0)) → Next d
      at_stop us rest stuck v (shorter [] h k) =
          let same : ts ≡ us = h ∙ append-nil us in
          absurd (x.greedy (size (ts ++> more d (ends 0))) (length ts) ts e d d.start (omega arith) read_end (λ m. ap (λ (z : List Lexeme). x.reader (size (ts ++> more d (ends 0))) (z ++> more d m)) same ∙ stuck (more d m) (sym (ap head k)) ∙ ap (λ z. Err (refusal z)) k))
      at_stop us rest stuck v (shorter (u ∷ c) h k) =
          absurd (not_both (x.reader (size (ts ++> more d (ends 0))) (ts ++> ends 0)) (e, ends 0) (refusal rest) read_end
          (ap (λ (z : List Lexeme). x.reader (size (ts ++> more d (ends 0))) (z ++> ends 0)) h ∙ ap (x.reader (size (ts ++> more d (ends 0)))) (append_stream us (u ∷ c) (ends 0)) ∙ stuck (more u (c ++> ends 0)) (sym (ap head k))))
      at_stop us rest stuck v (longer u c h k) = goes_over (subst (Viable calm calm (free x)) (one_more ts us d u c rest h k) v)

      at_comes : Comes calm calm quiet x.reader x.law (size (ts ++> more d (ends 0))) (ts ++> more d (ends 0)) → Next d
      at_comes (reads us y rest is go1 go2) = at_read us y rest (λ after h. large_enough calm calm quiet x.reader x.law (size (ts ++> more d (ends 0))) (us ++> after) (Ok (y, after)) (λ i. go2 i after h)) (compare us ts rest (more d (ends 0)) (sym is))
      at_comes (refuses us rest is no1 no2 v) = at_stop us rest no1 (viable_so calm calm quiet x.reader x.law (larger (size (ts ++> more d (ends 0))) 0) us (v 0)) (compare us ts rest (more d (ends 0)) (sym is))
      at_comes (passes p) = absurd (none_passes calm calm quiet x.reader x.law (size (ts ++> more d (ends 0))) (ts ++> more d (ends 0)) (omega arith) p)

  abbrev is_over : {d : Lexeme} → Next d → Bool
  is_over (leaves_it h) = false
  is_over (goes_over v) = true

  -- the token goes on with what was read
  pub open_to : Lexeme → Bool
  open_to d = is_over (next d)

  -- one that is left, whatever follows, doesn't
  pub left_so : (d : Lexeme) → ((m : Stream) → free x (ts ++> more d m) ≡ Ok (e, more d m)) → open_to d ≡ false
  unfolding open_to
  left_so d h = at_next (next d)
    where
      at_next : (n : Next d) → is_over n ≡ false
      at_next (leaves_it k) = refl
      at_next (goes_over v) =
          let one : free x (ts ++> more d (v.others ++> ends 0)) ≡ Ok (v.value, ends 0) = ap (free x) (sym (append_stream ts (d ∷ []) (v.others ++> ends 0))) ∙ v.reads (ends 0) quiet in
          let w = values (free x (ts ++> more d (v.others ++> ends 0))) e v.value (more d (v.others ++> ends 0)) (ends 0) (h (v.others ++> ends 0)) one in
          let bad : more d (v.others ++> ends 0) ≡ ends 0 = w.1 in
          absurd cc

  -- what is settled is left
  pub settled_free : (after : Stream) → Settled open_to after → free x (ts ++> after) ≡ Ok (e, after)
  unfolding open_to
  settled_free (ends q) h = go (ends q) quiet
  settled_free (breaks f) h = go (breaks f) quiet
  settled_free (more d m) h = at_next (next d) h
    where
      at_next : (n : Next d) → is_over n ≡ false → free x (ts ++> more d m) ≡ Ok (e, more d m)
      at_next (leaves_it k) h = k m
      at_next (goes_over v) h = absurd cc

  -- what is calm is settled
  pub calm_settles : (after : Stream) → calm (ahead after) ≡ true → Settled open_to after
  calm_settles (ends q) h = tt
  calm_settles (breaks f) h = tt
  calm_settles (more d m) h = left_so d (λ z. go (more d z) h)

  -- over what is open reading goes on
  pub over_open : (d : Lexeme) → open_to d ≡ true → Viable calm calm (free x) (ts ++ d ∷ [])
  unfolding open_to
  over_open d h = at_next (next d) h
    where
      at_next : (n : Next d) → is_over n ≡ true → Viable calm calm (free x) (ts ++ d ∷ [])
      at_next (leaves_it k) h = absurd cc
      at_next (goes_over v) h = v
