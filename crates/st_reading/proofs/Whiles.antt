-- Items behind one another while their first tokens tell them, whatever fuel there is.
use Rattle.std.proofs.Common.{◌≡◌, ℕ, zero, suc, ◌+◌, ◌<◌, ◌≤◌, Bool, true, false, cond, List, [], ◌∷◌, ◌++◌, length, length-append, Ok, Err, refl, sym, ap, subst, ◌∙◌, arith}
use Rattle.st_tokens.specs.Stream.{◌++>◌, Lexeme, Stream, ends, breaks, more}
use Rattle.st_reading.specs.declared.sign.Sign.{Sign}
use Rattle.st_reading.specs.declared.sign.Sign.TheVariants as signs
use Rattle.st_reading.specs.Sign.{sign_of}
use Rattle.st_reading.specs.Reading.{Read, ◌>>=◌, ahead, size, then_reads, gives}
use Rattle.st_reading.specs.Spelling.{Cut, Sound}
use Rattle.st_reading.specs.Phrases.{Many, none_more, one_more}
use Rattle.st_reading.proofs.Streams.{append_stream}
use Rattle.st_reading.proofs.Soundness.{split, values, taken}
use Rattle.st_reading.proofs.Judging.{Reader}

unfoldable pub while_from : {X A : Type 0} → (Sign → Bool) → Reader X A → ℕ → Reader X (List A)
while_from test item zero s = Ok ([], s)
while_from test item (suc k) s = cond (test (ahead s)) (then_reads item (λ y. then_reads (λ m. while_from test item k m) (λ ys. gives (y ∷ ys))) s) (Ok ([], s))

abbrev pub while_of : {X A : Type 0} → (Sign → Bool) → Reader X A → Reader X (List A)
while_of test item s = while_from test item (size s) s

pub stream_size : (ts : List Lexeme) (s : Stream) → size (ts ++> s) ≡ length ts + size s
stream_size [] s = omega arith
stream_size (t ∷ ts) s = omega (arith, stream_size ts s)

module _ {X A : Type 0} (test : Sign → Bool) (item : Reader X A) where
  pub while_none : (k : ℕ) (s : Stream) → test (ahead s) ≡ false → while_from test item k s ≡ Ok ([], s)
  unfolding while_from
  while_none zero s h = refl
  while_none (suc k) s h = rw h refl

  module _ (nothing : test signs.Nothing ≡ false) (strict : (s : Stream) (y : A) (rest : Stream) → item s ≡ Ok (y, rest) → size rest < size s) where
    abbrev behind_one : ℕ → A → Reader X (List A)
    behind_one k y = then_reads (λ m. while_from test item k m) (λ ys. gives (y ∷ ys))

    same_bind : (j k n : ℕ) → ((s : Stream) → size s ≤ n → while_from test item j s ≡ while_from test item k s) → (s : Stream) → size s ≤ suc n → then_reads item (behind_one j) s ≡ then_reads item (behind_one k) s
    same_bind j k n again s le = at_read (item s) refl
      where
        at_read : (r : Read X A) → r ≡ item s → (r >>= λ y. behind_one j y.0 y.1) ≡ (r >>= λ y. behind_one k y.0 y.1)
        at_read (Ok (y, rest)) e = let less = strict s y rest (sym e) in let same = again rest (omega arith) in rw same refl
        at_read (Err f) e = refl

    pub while_enough : (j k : ℕ) (s : Stream) → size s ≤ j → size s ≤ k → while_from test item j s ≡ while_from test item k s
    unfolding while_from
    while_enough j k (ends p) h i = while_none j (ends p) nothing ∙ sym (while_none k (ends p) nothing)
    while_enough j k (breaks f) h i = while_none j (breaks f) nothing ∙ sym (while_none k (breaks f) nothing)
    while_enough zero k (more t s) h i = absurd (omega arith)
    while_enough (suc j) zero (more t s) h i = absurd (omega arith)
    while_enough (suc j) (suc k) (more t s) h i = at_test (λ m a b. while_enough j k m a b) (test (sign_of t))
      where
        at_test : ((m : Stream) → size m ≤ j → size m ≤ k → while_from test item j m ≡ while_from test item k m) → (b : Bool) → cond b (then_reads item (behind_one j) (more t s)) (Ok ([], more t s)) ≡ cond b (then_reads item (behind_one k) (more t s)) (Ok ([], more t s))
        at_test again true = same_bind j k (size s) (λ m le. again m (omega arith) (omega arith)) (more t s) (omega arith)
        at_test again false = refl

    -- one turn
    pub while_step : (t : Lexeme) (s : Stream) → test (sign_of t) ≡ true → while_of test item (more t s) ≡ then_reads item (λ y. then_reads (while_of test item) (λ ys. gives (y ∷ ys))) (more t s)
    unfolding while_from
    while_step t s h = rw h (at_read (item (more t s)) refl)
      where
        at_read : (r : Read X A) → r ≡ item (more t s) → (r >>= λ y. behind_one (size s) y.0 y.1) ≡ (r >>= λ y. then_reads (while_of test item) (λ ys. gives (y.0 ∷ ys)) y.1)
        at_read (Ok (y, rest)) e = let less = strict (more t s) y rest (sym e) in let same = while_enough (size s) (size rest) rest (omega arith) (omega arith) in rw same refl
        at_read (Err f) e = refl

  -- read exactly where it is spelled
  module _ (L : List Lexeme → A → Type 0) where
    while_sound_at : (k : ℕ) → Sound item L → Sound (while_from test item k) (Many L)
    unfolding while_from
    while_sound_at zero sound s xs rest h = taken {X = X} (Many L) [] (gives [] s) [] xs s rest refl h none_more
    while_sound_at (suc k) sound s xs rest h = at_test (while_sound_at k sound) (test (ahead s)) h
      where
        at_test : Sound (while_from test item k) (Many L) → (b : Bool) → cond b (then_reads item (λ y. then_reads (λ m. while_from test item k m) (λ ys. gives (y ∷ ys))) s) (Ok ([], s)) ≡ Ok (xs, rest) → Cut (Many L) s xs rest
        at_test again false h = taken {X = X} (Many L) [] (gives [] s) [] xs s rest refl h none_more
        at_test again true h =
            let p = split item (λ y. then_reads (λ m. while_from test item k m) (λ ys. gives (y ∷ ys))) s xs rest h in
            let q = split (λ m. while_from test item k m) (λ ys. gives (p.value ∷ ys)) p.middle xs rest p.second in
            let c = sound s p.value p.middle p.first in
            let d = again p.middle q.value q.middle q.first in
            let v = values {X = X} (gives (p.value ∷ q.value) q.middle) (p.value ∷ q.value) xs q.middle rest refl q.second in
            record {
              text = c.text ++ d.text;
              is = c.is ∙ ap (λ m. c.text ++> m) d.is ∙ sym (append_stream c.text d.text q.middle) ∙ ap (λ m. (c.text ++ d.text) ++> m) v.1;
              spells = subst (Many L (c.text ++ d.text)) v.0 (one_more c.text d.text p.value q.value c.spells d.spells);
            }

    pub while_sound : Sound item L → Sound (while_of test item) (Many L)
    while_sound sound s xs rest h = while_sound_at (size s) sound s xs rest h

    module _ (begins : (ts : List Lexeme) (x : A) (after : Stream) → L ts x → (test (ahead (ts ++> after)) ≡ true) × (0 < length ts)) (complete : (ts : List Lexeme) (x : A) (after : Stream) → L ts x → item (ts ++> after) ≡ Ok (x, after)) where
      while_complete_at : (k : ℕ) (ts : List Lexeme) (xs : List A) → Many L ts xs → length ts ≤ k → (after : Stream) → test (ahead after) ≡ false → while_from test item k (ts ++> after) ≡ Ok (xs, after)
      unfolding while_from
      while_complete_at k ts xs none_more le after h = while_none k after h
      while_complete_at zero ts xs (one_more a b x ys l m) le after h = absurd (omega (arith, (begins a x after l).1, length-append a b))
      while_complete_at (suc k) ts xs (one_more a b x ys l m) le after h =
          let read = complete a x (b ++> after) l in
          let start = (begins a x (b ++> after) l).0 in
          let rest = while_complete_at k b ys m (omega (arith, (begins a x after l).1, length-append a b)) after h in
          ap (while_from test item (suc k)) (append_stream a b after) ∙ rw (start, read, rest) refl

      pub while_complete : (ts : List Lexeme) (xs : List A) → Many L ts xs → (after : Stream) → test (ahead after) ≡ false → while_of test item (ts ++> after) ≡ Ok (xs, after)
      while_complete ts xs m after h = while_complete_at (size (ts ++> after)) ts xs m (omega (arith, stream_size ts after)) after h
