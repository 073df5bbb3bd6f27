-- Values, judged and not, beside each other.
use Rattle.std.proofs.Common.{◌≡◌, ℕ, suc, ◌+◌, Bool, true, false, cond, pos, List, [], ◌∷◌, length, Option, Some, None, Ok, Err, refl, sym, ap, subst, ◌∙◌, arith}
use Rattle.std.specs.Prelude.{not, neg_ℤ}
use Rattle.st_tokens.specs.Stream.{◌++>◌, Lexeme, Stream, ends, breaks, more, behind}
use Rattle.st_reading.specs.declared.mark.Mark.TheVariants as marks
use Rattle.st_reading.specs.Sign.{sign_of, is}
use Rattle.st_reading.specs.Reading.{other, Read, ◌>>=◌, ahead, place_of, refusal, then_reads, gives, on_operator}
use Rattle.st_reading.specs.Rule as rules
use Rattle.st_reading.specs.Breaches.{Breach, broke, unless, numeral_in, numeral_of}
use Rattle.st_reading.specs.BrokenRules.{Broken}
use Rattle.st_reading.specs.Steady.{anything}
use Rattle.st_reading.proofs.Judging.{good, alike}
use Rattle.st_program.specs.declared.residuals.Datum.{Datum}
use Rattle.st_program.specs.declared.residuals.Datum.TheVariants.{Number}
use Rattle.schedule_reader.specs.Values.{value_in, value_of, has_type, typed_of}
use Rattle.schedule_grammar.specs.RawSchedules.{RawValue}
use Rattle.schedule_grammar.specs.Rules.{found_at, type_rules}
use Rattle.schedule_grammar.proofs.Closed.{Judged, refusal_syntactic, breaks_at}
use Rattle.schedule_grammar.proofs.RawReaders.{the_value, raw_value}

-- the value alone is what the plain reader's value holds
value_is : (s : Stream) → value_of s ≡ then_reads raw_value (λ w. gives w.datum) s
unfolding value_of
value_is s = at_minus (is (ahead s) marks.Minus) refl
  where
    at_number : (r : Read Breach (ℕ × ℕ)) → (r >>= λ n. gives {X = Breach} (Number (neg_ℤ (pos n.0.0))) n.1) ≡ ((r >>= λ n. gives {X = Breach} (the_value (Number (neg_ℤ (pos n.0.0))) (place_of s) 2) n.1) >>= λ w. gives {X = Breach} w.0.datum w.1)
    at_number (Ok n) = refl
    at_number (Err f) = refl

    at_single : (o : Option Datum) → on_operator {A = Read Breach Datum} o (Err (refusal s)) (λ d. Ok (d, behind s)) ≡ (on_operator {A = Read Breach RawValue} o (Err (refusal s)) (λ d. Ok (the_value d (place_of s) 1, behind s)) >>= λ w. gives {X = Breach} w.0.datum w.1)
    at_single None = refl
    at_single (Some d) = refl

    at_minus : (b : Bool) → is (ahead s) marks.Minus ≡ b
        → cond b (then_reads numeral_of (λ n. gives (Number (neg_ℤ (pos n.0)))) (behind s)) (on_operator (value_in (ahead s)) (Err (refusal s)) (λ d. Ok (d, behind s)))
        ≡ (cond b (then_reads numeral_of (λ n. gives (the_value (Number (neg_ℤ (pos n.0))) (place_of s) 2)) (behind s)) (on_operator (value_in (ahead s)) (Err (refusal s)) (λ d. Ok (the_value d (place_of s) 1, behind s))) >>= λ w. gives {X = Breach} w.0.datum w.1)
    at_minus true e = at_number (numeral_of (behind s))
    at_minus false e = at_single (value_in (ahead s))

-- `found` says at which token a value of so many tokens is judged
module _ (v : ℕ × Bool) (at : ℕ) (found : ℕ → ℕ) (found_is : (n : ℕ) → found n ≡ at + n) where
  abbrev value_rules : RawValue → List (Broken Breach)
  value_rules w = type_rules (found w.size) w (Some v)

  abbrev Holds : RawValue → Datum → Type 0
  Holds w d = w.datum ≡ d

  abbrev pub JudgedValue : Stream → Type 0
  JudgedValue s = Judged anything at (typed_of v.1) raw_value (λ w. w.size) value_rules Holds s

  module _ (t : Lexeme) (ts : List Lexeme) (rest : Stream) (w : RawValue) (read : (after : Stream) → raw_value (more t (ts ++> after)) ≡ Ok (w, after)) (place : w.place ≡ t.start) (many : w.size ≡ suc (length ts)) where
    judged_by : (after : Stream) → typed_of v.1 (more t (ts ++> after)) ≡ unless (not (has_type v.1 w.datum)) (broke rules.WrongType t.start) w.datum after
    unfolding typed_of
    judged_by after = let r = read after in let o : value_of (more t (ts ++> after)) ≡ Ok (w.datum, after) = value_is (more t (ts ++> after)) ∙ rw r refl in rw o refl

    whole_value : (b : Bool) → not (has_type v.1 w.datum) ≡ b → JudgedValue (more t (ts ++> rest))
    whole_value false e = good (t ∷ ts) w w.datum rest refl (λ after h. read after) (λ after h. judged_by after ∙ rw e refl) many (rw e refl) refl
    whole_value true e =
        breaks_at anything at (typed_of v.1) raw_value (λ w. w.size) value_rules Holds t ts rest w (found_at (found w.size) (broke rules.WrongType w.place)) [] (omega (arith, found_is w.size, many)) (rw e refl) read
        (λ after. judged_by after ∙ rw e refl ∙ ap (λ p. Err (other (broke rules.WrongType p))) (sym place))

  -- what breaks off there, or behind a "-"
  stops_at : (s m : Stream) → raw_value s ≡ Err (refusal m) → JudgedValue s
  unfolding typed_of
  stops_at s m h = let o : value_of s ≡ Err (refusal m) = value_is s ∙ rw h refl in stop (rw o refl)
    where
      stop : typed_of v.1 s ≡ Err (refusal m) → JudgedValue s
      stop k = alike (refusal m) (refusal_syntactic m) k h

  pub judged_value : (s : Stream) → JudgedValue s
  unfolding numeral_of
  judged_value (ends p) = stops_at (ends p) (ends p) refl
  judged_value (breaks f) = stops_at (breaks f) (breaks f) refl
  judged_value (more t s) = at_minus (is (sign_of t) marks.Minus) refl
    where
      at_single : is (sign_of t) marks.Minus ≡ false → (o : Option Datum) → value_in (sign_of t) ≡ o → JudgedValue (more t s)
      at_single e None k = stops_at (more t s) (more t s) (rw (e, k) refl)
      at_single e (Some d) k = whole_value t [] s (the_value d t.start 1) (λ after. rw (e, k) refl) refl refl (not (has_type v.1 d)) refl

      at_sign : is (sign_of t) marks.Minus ≡ true → (u : Lexeme) (m : Stream) (o : Option ℕ) → numeral_in (sign_of u) ≡ o → s ≡ more u m → JudgedValue (more t s)
      at_sign e u m None k is_s = stops_at (more t s) s (rw (e, is_s, k) refl)
      at_sign e u m (Some n) k is_s =
          subst (λ z. JudgedValue (more t z)) (sym is_s) (whole_value t (u ∷ []) m (the_value (Number (neg_ℤ (pos n))) t.start 2) (λ after. rw (e, k) refl) refl refl (not (has_type v.1 (Number (neg_ℤ (pos n))))) refl)

      at_next : is (sign_of t) marks.Minus ≡ true → (z : Stream) → s ≡ z → JudgedValue (more t s)
      at_next e (ends p) is_s = stops_at (more t s) s (rw (e, is_s) refl)
      at_next e (breaks f) is_s = stops_at (more t s) s (rw (e, is_s) refl)
      at_next e (more u m) is_s = at_sign e u m (numeral_in (sign_of u)) refl is_s

      at_minus : (b : Bool) → is (sign_of t) marks.Minus ≡ b → JudgedValue (more t s)
      at_minus false e = at_single e (value_in (sign_of t)) refl
      at_minus true e = at_next e s refl
