-- Loops over items, as the code goes through them: what was read so far, and what is left.
use Rattle.std.proofs.Common.{◌≡◌, ℕ, zero, suc, ◌≤◌, Option, Some, None, Ok, Err, refl, sym, ap, ◌∙◌, arith}
use Rattle.st_tokens.specs.Stream.{Stream, ends, breaks, more, behind}
use Rattle.st_reading.specs.declared.sign.Sign.{Sign}
use Rattle.st_reading.specs.declared.sign.Sign.TheVariants as signs
use Rattle.st_reading.specs.Reading.{Stop, Read, ◌>>=◌, IsStop, Label, ahead, name_of, then_reads, size}
use Rattle.st_reading.proofs.Streams.{behind_size}
use Rattle.st_reading.specs.Breaches.{Breach, Reader}
use Rattle.schedule_reader.specs.Items.{items_from, items}

module _ {O S : Type 0} (begins : Sign → Option O) (item : O → Label → S → Reader S) where
  none_left : (k : ℕ) (x : S) (s : Stream) → None ≡ begins (ahead s) → items_from begins item k x s ≡ Ok (x, s)
  unfolding items_from
  none_left zero x s h = refl
  none_left (suc k) x s h = rw (← h) refl

  -- an item, with fuel for it
  one_more : (x : S) (s : Stream) (o : O) (k : ℕ) → Some o ≡ begins (ahead s) → None ≡ begins signs.Nothing → size s ≤ k
      → (n : ℕ) × (size (behind s) ≤ n) × (items_from begins item k x s ≡ then_reads (item o (name_of s) x) (λ y m. items_from begins item n y m) (behind s))
  unfolding items_from
  one_more x (ends place) o k h none le = cc
  one_more x (breaks f) o k h none le = cc
  one_more x (more t s) o zero h none le = absurd (omega arith)
  one_more x (more t s) o (suc k) h none le = (k, omega arith, rw (← h) refl)

  -- `x` is what a loop has read, s is left, and the items from there are the whole
  pub record Going (x : S) (s start : Stream) (whole : Read Breach S) : Type 0 where
    pub shrinks : size s ≤ size start
    pub fuel : ℕ
    pub enough : size s ≤ fuel
    pub completes : items_from begins item fuel x s ≡ whole

  pub starts : (x : S) (s : Stream) → Going x s s (items begins item x s)
  starts x s = record { shrinks = omega arith; fuel = size s; enough = omega arith; completes = refl }

  module _ (none : None ≡ begins signs.Nothing) (x : S) (s start : Stream) (whole : Read Breach S) (g : Going x s start whole) where
    pub goes_on : (o : O) (l : Label) (y : S) (next after : Stream) → Some o ≡ begins (ahead s) → l ≡ name_of s → next ≡ behind s → item o l x next ≡ Ok (y, after) → size after ≤ size next → Going y after start whole
    goes_on o l y next after h at is e le =
        let m = one_more x s o g.fuel h none g.enough in
        let read_so : item o (name_of s) x (behind s) ≡ Ok (y, after) = ap (λ a. item o a x (behind s)) (sym at) ∙ ap (item o l x) (sym is) ∙ e in
        record {
          shrinks = omega (arith, g.shrinks, behind_size s, ap size is);
          fuel = m.0;
          enough = omega (arith, m.1, ap size is);
          completes = sym (ap (λ (r : Read Breach S). r >>= λ y. items_from begins item m.0 y.0 y.1) read_so) ∙ sym m.2 ∙ g.completes;
        }

    pub ends_so : None ≡ begins (ahead s) → whole ≡ Ok (x, s)
    ends_so h = sym g.completes ∙ none_left g.fuel x s h

    pub fails_so : (o : O) (l : Label) (e : Option (Stop Breach)) (next : Stream) → Some o ≡ begins (ahead s) → l ≡ name_of s → next ≡ behind s → IsStop e (item o l x next) → IsStop e whole
    fails_so o l None next h at is bad = tt
    fails_so o l (Some f) next h at is bad =
        let m = one_more x s o g.fuel h none g.enough in
        let read_so : item o (name_of s) x (behind s) ≡ Err f = ap (λ a. item o a x (behind s)) (sym at) ∙ ap (item o l x) (sym is) ∙ bad in
        sym g.completes ∙ m.2 ∙ ap (λ (r : Read Breach S). r >>= λ y. items_from begins item m.0 y.0 y.1) read_so
