-- A vector that solves the first rows is continued, up to a factor, to one that solves all.
use Rattle.std.proofs.Common.{◌≡◌, ◌≢◌, ℕ, zero, suc, ◌+◌, ◌*◌, ◌<◌, ◌≤◌, Bool, true, false, List, [], ◌∷◌, inl, inr, refl, ap, ◌∙◌, sym, subst, arith, ℤ, pos, negsuc, neg_ℤ, ◌+ℤ◌, ◌*ℤ◌}
use Rattle.std.specs.Prelude.{◌==◌, nat_lt, if◌then◌else◌, unsigned_abs}
use Rattle.std.proofs.lemmas.Int.{ints}
use Rattle.std.proofs.lemmas.Bool.{cases_lt}
use Rattle.std.proofs.lemmas.Bool.Decides.{nat_tests}
use Rattle.std.proofs.Math.IntN.{zero-*ℤ, *ℤ_comm}
use Rattle.st_linear.specs.Linear.{AreEntries, AllBelow, entries_value}
use Rattle.st_linear.proofs.Ints.{neg_ℤ-*ℤ, *ℤ_assoc}
use Rattle.elimination_laws.specs.Mixing.{part}
use Rattle.elimination_laws.proofs.Heights.{delta, moved, part-slope}
use Rattle.null_laws.specs.Reduction.{Entries}
use Rattle.null_laws.specs.Vectors.{front}
use Rattle.null_laws.specs.Bases.{Vector}
use Rattle.null_laws.proofs.Rows.{part_past, below_weaker}
use Rattle.basic_laws.proofs.Integers.{times_one}
use Rattle.null_laws.proofs.Products.{value-moved}
use Rattle.null_laws.specs.Solving.{IsSolving, AreSolving}
use Rattle.null_laws.proofs.Staging.{Solved, IsSolvedNull}

-- kept where the vector is multiplied and a column from l on changed
abbrev pub IsStable : (Vector → Type 0) → ℕ → Type 0
IsStable P l = (t v : ℕ) (w : ℤ) (y : Vector) → 0 < t → l ≤ v → P y → P (moved (pos t) v w y)

pub record Reached (P : Vector → Type 0) (ss : Solved) : Type 0 where
  pub z : Vector
  pub keeps : P z
  pub solves : IsSolvedNull ss z

moved-past : (t v : ℕ) (w : ℤ) (y : Vector) (es : Entries) → AreEntries es → AllBelow v es → entries_value y es ≡ pos 0 → entries_value (moved (pos t) v w y) es ≡ pos 0
moved-past t v w y es a b h =
    value-moved (pos t) v w y es
    ∙ omega (arith, ints, ap (λ z. z *ℤ pos t) h, zero-*ℤ (pos t), ap (λ z. z *ℤ w) (sym (part-slope v es a) ∙ part_past v v es b (omega arith)), zero-*ℤ w)

pub record Turn (p z : ℤ) : Type 0 where
  pub t : ℕ
  pub w : ℤ
  pub positive : 0 < t
  pub level : z *ℤ pos t +ℤ p *ℤ w ≡ pos 0

turn : (p z : ℤ) → p ≢ pos 0 → Turn p z
turn (pos zero) z h = absurd (h refl)
turn (pos (suc n)) z h = record { t = suc n; w = neg_ℤ z; positive = omega arith; level = omega (arith, ints, *ℤ_comm (pos (suc n)) (neg_ℤ z), neg_ℤ-*ℤ z (pos (suc n))) }
turn (negsuc n) z h = record { t = suc n; w = z; positive = omega arith; level = omega (arith, ints, *ℤ_comm z (pos (suc n)), neg_ℤ-*ℤ (pos (suc n)) z) }

with_row : (P : Vector → Type 0) (l n : ℕ) (es : Entries) → IsStable P l → l ≤ n → AreEntries es → AllBelow n es → IsStable (λ y. P y × (entries_value y es ≡ pos 0)) n
with_row P l n es f i a b t v w y h k p = (f t v w y h (omega arith) p.0, moved-past t v w y es a (wider v k) p.1)
  where
    wider : (v : ℕ) → n ≤ v → AllBelow v es
    wider v k = below_weaker n v es k b

-- each row is solved by its own column, one after the other
settle : (P : Vector → Type 0) (l k : ℕ) (ss : Solved) (y : Vector) → IsStable P l → l ≤ k → AreSolving k ss → P y → Reached P ss
settle P l k [] y f i a p = record { z = y; keeps = p; solves = tt }
settle P l k (s ∷ ss) y f i a p =
    let b : IsSolving k s = a.0 in
    let r : k ≤ s.0 = b.from in
    let u = turn (part s.0 s.1) (entries_value y s.1) b.solves in
    let v : entries_value (moved (pos u.t) s.0 u.w y) s.1 ≡ pos 0 = value-moved (pos u.t) s.0 u.w y s.1 ∙ ap (λ z. entries_value y s.1 *ℤ pos u.t +ℤ z *ℤ u.w) (sym (part-slope s.0 s.1 b.entries)) ∙ u.level in
    let q = settle (λ y. P y × (entries_value y s.1 ≡ pos 0)) (suc s.0) (suc s.0) ss (moved (pos u.t) s.0 u.w y) (with_row P l (suc s.0) s.1 f (omega arith) b.entries b.below) (omega arith) a.2 (f u.t s.0 u.w y u.positive (omega arith) p, v) in
    record { z = q.z; keeps = q.keeps.0; solves = (q.keeps.1, q.solves) }

from_later : (n k : ℕ) (s : ℕ × Entries) (ss : Solved) → n ≤ s.0 → AreSolving k (s ∷ ss) → AreSolving n (s ∷ ss)
from_later n k s ss h a = let b : IsSolving k s = a.0 in (record { from = h; entries = b.entries; below = b.below; solves = b.solves }, a.1, a.2)

front-true : (n : ℕ) (s : ℕ × Entries) (ss : Solved) (y : Vector) → s.0 < n → IsSolvedNull (front n (s ∷ ss)) y → (entries_value y s.1 ≡ pos 0) × IsSolvedNull (front n ss) y
front-true n s ss y l h = let t : nat_lt s.0 n ≡ true = grind (arith, nat_tests) in rw t at h

extend-with : (P : Vector → Type 0) (n k : ℕ) (ss : Solved) (y : Vector) → IsStable P n → AreSolving k ss → P y → IsSolvedNull (front n ss) y → Reached P ss
extend-with P n k [] y f a p h = record { z = y; keeps = p; solves = tt }
extend-with P n k (s ∷ ss) y f a p h =
    let b : IsSolving k s = a.0 in
    elim (cases_lt s.0 n) [
      | inl less ↦
          let i = front-true n s ss y less h in
          let q = extend-with (λ y. P y × (entries_value y s.1 ≡ pos 0)) n (suc s.0) ss y (with_row P n n s.1 f (omega arith) b.entries (below_weaker (suc s.0) n s.1 (omega arith) b.below)) a.2 (p, i.0) i.1 in
          record { z = q.z; keeps = q.keeps.0; solves = (q.keeps.1, q.solves) }
      | inr more ↦ settle P n n (s ∷ ss) y f (omega arith) (from_later n k s ss more a) p
    ]

-- a multiple of the first n columns
pub record IsMultiple (n : ℕ) (x y : Vector) : Type 0 where
  pub times : ℕ
  pub positive : 0 < times
  pub same : (c : ℕ) → c < n → y c ≡ x c *ℤ pos times

pub positive_product : (a b : ℕ) → 0 < a → 0 < b → 0 < a * b
positive_product (suc a) (suc b) h k = omega arith
positive_product zero b h k = absurd (omega arith)
positive_product (suc a) zero h k = absurd (omega arith)

multiple-stable : (n : ℕ) (x : Vector) → IsStable (IsMultiple n x) n
multiple-stable n x t v w y h k m = record {
  times = m.times * t;
  positive = positive_product m.times t m.positive h;
  same = λ c l.
      let d : (c == v) ≡ false = grind (arith, nat_tests) in
      rw d (omega (arith, ints, zero-*ℤ w, ap (λ z. z *ℤ pos t) (m.same c l), *ℤ_assoc (x c) (pos m.times) (pos t)));
}

pub extended : (n k : ℕ) (ss : Solved) (x : Vector) → AreSolving k ss → IsSolvedNull (front n ss) x → Reached (IsMultiple n x) ss
extended n k ss x a h = extend-with (IsMultiple n x) n k ss x (multiple-stable n x) a (record { times = 1; positive = omega arith; same = λ c l. sym (times_one (x c)) }) h
