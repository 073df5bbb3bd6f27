use Rattle.std.proofs.Common.{◌≡◌, ℕ, zero, suc, ◌≤◌, Bool, true, false, List, [], ◌∷◌, refl, ap, ◌∙◌, sym, arith, ℤ, pos, negsuc, ◌+ℤ◌, ◌*ℤ◌, ◌≤ℤ◌, ◌<ℤ◌, inl, inr}
use Rattle.std.specs.Prelude.{◌==◌, if◌then◌else◌}
use Rattle.std.proofs.lemmas.Int.{ints}
use Rattle.std.proofs.lemmas.Bool.{cases_eq}
use Rattle.std.proofs.lemmas.Bool.Decides.{nat_tests}
use Rattle.std.proofs.Math.IntN.{zero-*ℤ, *ℤ_comm}
use Rattle.st_linear.specs.Linear.{Linear, entries_value, joined, scaled_entries, sum_of, scaled, AreEntries, AllAbove}
use Rattle.st_linear.proofs.Joined.{value-joined, value-with_entry}
use Rattle.st_linear.proofs.Ints.{+ℤ-*ℤ, *ℤ-+ℤ, *ℤ_assoc}
use Rattle.elimination_laws.specs.Mixing.{part}
use Rattle.farkas_leaf.specs.Lines.{HoldsBy}
use Rattle.basic_laws.proofs.Integers.{times_one, times_zero}

abbrev Entries : Type 0
Entries = List (ℕ × ℤ)

abbrev pub Store : Type 0
Store = ℕ → ℤ

-- the value of a form, times d, where each variable is its number in the store divided by d
abbrev pub height : ℤ → Store → Linear → ℤ
height d s f = f.constant *ℤ d +ℤ entries_value s f.entries

abbrev pub delta : ℕ → ℕ → ℤ
delta v u = if u == v then pos 1 else pos 0

abbrev pub moved : ℤ → ℕ → ℤ → Store → Store
moved k v w s u = s u *ℤ k +ℤ delta v u *ℤ w

-- how fast a form rises with a variable
abbrev pub slope : ℕ → Linear → ℤ
slope v f = entries_value (delta v) f.entries

swap : (a b c : ℤ) → (a *ℤ b) *ℤ c ≡ (a *ℤ c) *ℤ b
swap a b c = *ℤ_assoc a b c ∙ ap (λ x. a *ℤ x) (*ℤ_comm b c) ∙ sym (*ℤ_assoc a c b)

pub entries-scaled : (s : Store) (c : ℤ) (es : Entries) → entries_value s (scaled_entries c es) ≡ entries_value s es *ℤ c
entries-scaled s c [] = sym (zero-*ℤ c)
entries-scaled s c (e ∷ es) =
    omega (
      arith,
      ints,
      value-with_entry s e.0 (e.1 *ℤ c) (scaled_entries c es),
      entries-scaled s c es,
      +ℤ-*ℤ (e.1 *ℤ s e.0) (entries_value s es) c,
      swap e.1 c (s e.0),
    )

pub entries-mix : (s : Store) (x y : ℤ) (es fs : Entries) → entries_value s (joined (scaled_entries x es) (scaled_entries y fs)) ≡ entries_value s es *ℤ x +ℤ entries_value s fs *ℤ y
entries-mix s x y es fs = omega (arith, ints, value-joined s (scaled_entries x es) (scaled_entries y fs), entries-scaled s x es, entries-scaled s y fs)

entries-moved : (k : ℤ) (v : ℕ) (w : ℤ) (s : Store) (es : Entries) → entries_value (moved k v w s) es ≡ entries_value s es *ℤ k +ℤ entries_value (delta v) es *ℤ w
entries-moved k v w s [] = omega (arith, ints, zero-*ℤ k, zero-*ℤ w)
entries-moved k v w s (e ∷ es) =
    omega (
      arith,
      ints,
      *ℤ-+ℤ (s e.0 *ℤ k) (delta v e.0 *ℤ w) e.1,
      *ℤ_assoc e.1 (s e.0) k,
      *ℤ_assoc e.1 (delta v e.0) w,
      +ℤ-*ℤ (e.1 *ℤ s e.0) (entries_value s es) k,
      +ℤ-*ℤ (e.1 *ℤ delta v e.0) (entries_value (delta v) es) w,
      entries-moved k v w s es,
    )

pub height-moved : (d k : ℤ) (v : ℕ) (w : ℤ) (s : Store) (f : Linear) → height (d *ℤ k) (moved k v w s) f ≡ height d s f *ℤ k +ℤ slope v f *ℤ w
height-moved d k v w s f = omega (arith, ints, *ℤ_assoc f.constant d k, +ℤ-*ℤ (f.constant *ℤ d) (entries_value s f.entries) k, entries-moved k v w s f.entries)

pub height-mix : (d : ℤ) (s : Store) (x y : ℤ) (f g : Linear) → height d s (sum_of (scaled x f) (scaled y g)) ≡ height d s f *ℤ x +ℤ height d s g *ℤ y
height-mix d s x y f g =
    omega (
      arith,
      ints,
      entries-mix s x y f.entries g.entries,
      +ℤ-*ℤ (f.constant *ℤ x) (g.constant *ℤ y) d,
      swap f.constant x d,
      swap g.constant y d,
      +ℤ-*ℤ (f.constant *ℤ d) (entries_value s f.entries) x,
      +ℤ-*ℤ (g.constant *ℤ d) (entries_value s g.entries) y,
    )

pub slope-mix : (v : ℕ) (x y : ℤ) (f g : Linear) → slope v (sum_of (scaled x f) (scaled y g)) ≡ slope v f *ℤ x +ℤ slope v g *ℤ y
slope-mix v x y f g = entries-mix (delta v) x y f.entries g.entries

slope-above : (v w : ℕ) (es : Entries) → v ≤ w → AllAbove w es → entries_value (delta v) es ≡ pos 0
slope-above v w [] h k = refl
slope-above v w (e ∷ es) h k = let t : (e.0 == v) ≡ false = grind (arith, nat_tests) in rw (t, times_zero e.1, slope-above v w es h k.1) refl

pub part-slope : (v : ℕ) (es : Entries) → AreEntries es → part v es ≡ entries_value (delta v) es
part-slope v [] h = refl
part-slope v (e ∷ es) h =
    elim (cases_eq e.0 v) [
      | inl same ↦ let t : (e.0 == v) ≡ true = grind (arith, nat_tests) in rw (t, times_one e.1, slope-above v e.0 es (omega arith) h.0) (omega (arith, ints))
      | inr other ↦ let t : (e.0 == v) ≡ false = grind (arith, nat_tests) in rw (t, times_zero e.1) (omega (arith, ints, part-slope v es h.2))
    ]

-- signs
pub above_times : (x y : ℤ) → pos 0 <ℤ x → pos 0 <ℤ y → pos 0 <ℤ (x *ℤ y)
above_times (pos (suc a)) (pos (suc b)) h k = omega (arith, ints)
above_times (pos zero) y h k = absurd (omega (arith, ints))
above_times (negsuc a) y h k = absurd (omega (arith, ints))
above_times (pos (suc a)) (pos zero) h k = absurd (omega (arith, ints))
above_times (pos (suc a)) (negsuc b) h k = absurd (omega (arith, ints))

pub least_times : (x y : ℤ) → pos 0 ≤ℤ x → pos 0 ≤ℤ y → pos 0 ≤ℤ (x *ℤ y)
least_times (pos a) (pos b) h k = omega (arith, ints)
least_times (negsuc a) y h k = absurd (omega (arith, ints))
least_times (pos a) (negsuc b) h k = absurd (omega (arith, ints))

below_times : (a : ℕ) (y : ℤ) → pos 0 <ℤ y → (negsuc a *ℤ y) <ℤ pos 0
below_times a (pos (suc b)) k = omega (arith, ints)
below_times a (pos zero) k = absurd (omega (arith, ints))
below_times a (negsuc b) k = absurd (omega (arith, ints))

pub holds_times : (b : Bool) (z k : ℤ) → pos 0 <ℤ k → HoldsBy b z → HoldsBy b (z *ℤ k)
holds_times true z k h t = ap (λ x. x *ℤ k) t ∙ zero-*ℤ k
holds_times false z k h t = least_times z k t (omega (arith, ints))

pub holds_from : (b : Bool) (z x r : ℤ) → pos 0 <ℤ x → z *ℤ x ≡ r → HoldsBy b r → HoldsBy b z
holds_from true (pos zero) x r h e t = refl
holds_from true (pos (suc n)) x r h e t = absurd (omega (arith, ints, above_times (pos (suc n)) x (omega (arith, ints)) h, e, t))
holds_from true (negsuc n) x r h e t = absurd (omega (arith, ints, below_times n x h, e, t))
holds_from false (pos n) x r h e t = omega (arith, ints)
holds_from false (negsuc n) x r h e t = absurd (omega (arith, ints, below_times n x h, e, t))
