-- The loop over items that judges, whatever fuel there is.
use Rattle.std.proofs.Common.{◌≡◌, ℕ, zero, suc, ◌≤◌, Option, Some, None, Ok, Err, refl, sym, ap, ◌∙◌, arith}
use Rattle.st_tokens.specs.Stream.{Lexeme, Stream, ends, breaks, more}
use Rattle.st_reading.specs.declared.sign.Sign.{Sign}
use Rattle.st_reading.specs.declared.sign.Sign.TheVariants as signs
use Rattle.st_reading.specs.Sign.{sign_of}
use Rattle.st_reading.specs.Reading.{Read, ◌>>=◌, Label, ahead, size, label_of, then_reads, on_operator}
use Rattle.st_reading.specs.Breaches.{Breach, Reader}
use Rattle.schedule_reader.specs.Items.{items_from, items}

pub bind_same : {A B : Type 0} (r q : Read Breach A) (f : A → Stream → Read Breach B) → r ≡ q → (r >>= λ x. f x.0 x.1) ≡ (q >>= λ x. f x.0 x.1)
bind_same {A} {B} r q f e = ap (λ (z : Read Breach A). z >>= λ x. f x.0 x.1) e

module _ {O S : Type 0} (begins : Sign → Option O) (item : O → Label → S → Reader S) where
  pub items_none : (k : ℕ) (x : S) (s : Stream) → begins (ahead s) ≡ None → items_from begins item k x s ≡ Ok (x, s)
  unfolding items_from
  items_none zero x s h = refl
  items_none (suc k) x s h = rw h refl

  module _ (nothing : begins signs.Nothing ≡ None) (shrinks : (t : Lexeme) (o : O) (x : S) (s : Stream) (y : S) (rest : Stream) → begins (sign_of t) ≡ Some o → item o (label_of t) x s ≡ Ok (y, rest) → size rest ≤ size s) where
    pub items_enough : (j k : ℕ) (x : S) (s : Stream) → size s ≤ j → size s ≤ k → items_from begins item j x s ≡ items_from begins item k x s
    unfolding items_from
    items_enough j k x (ends p) h i = items_none j x (ends p) nothing ∙ sym (items_none k x (ends p) nothing)
    items_enough j k x (breaks f) h i = items_none j x (breaks f) nothing ∙ sym (items_none k x (breaks f) nothing)
    items_enough zero k x (more t s) h i = absurd (omega arith)
    items_enough (suc j) zero x (more t s) h i = absurd (omega arith)
    items_enough (suc j) (suc k) x (more t s) h i = at_begins (λ y m a b. items_enough j k y m a b) (begins (sign_of t)) refl
      where
        at_read : ((y : S) (m : Stream) → size m ≤ j → size m ≤ k → items_from begins item j y m ≡ items_from begins item k y m) → (o : O) → begins (sign_of t) ≡ Some o → (r : Read Breach S) → r ≡ item o (label_of t) x s → (r >>= λ y. items_from begins item j y.0 y.1) ≡ (r >>= λ y. items_from begins item k y.0 y.1)
        at_read again o b (Ok (y, rest)) e = let le = shrinks t o x s y rest b (sym e) in again y rest (omega arith) (omega arith)
        at_read again o b (Err f) e = refl

        at_begins : ((y : S) (m : Stream) → size m ≤ j → size m ≤ k → items_from begins item j y m ≡ items_from begins item k y m) → (c : Option O) → begins (sign_of t) ≡ c
            → on_operator c (Ok (x, more t s)) (λ o. then_reads (item o (label_of t) x) (λ y m. items_from begins item j y m) s) ≡ on_operator c (Ok (x, more t s)) (λ o. then_reads (item o (label_of t) x) (λ y m. items_from begins item k y m) s)
        at_begins again None b = refl
        at_begins again (Some o) b = at_read again o b (item o (label_of t) x s) refl

    pub items_step : (t : Lexeme) (o : O) (x : S) (s : Stream) → begins (sign_of t) ≡ Some o → items begins item x (more t s) ≡ then_reads (item o (label_of t) x) (λ y. items begins item y) s
    unfolding items_from
    items_step t o x s h = rw h (at_read (item o (label_of t) x s) refl)
      where
        at_read : (r : Read Breach S) → r ≡ item o (label_of t) x s → (r >>= λ y. items_from begins item (size s) y.0 y.1) ≡ (r >>= λ y. items begins item y.0 y.1)
        at_read (Ok (y, rest)) e = let le = shrinks t o x s y rest h (sym e) in items_enough (size s) (size rest) y rest (omega arith) (omega arith)
        at_read (Err f) e = refl
