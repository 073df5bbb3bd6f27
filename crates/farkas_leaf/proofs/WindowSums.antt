-- Running sums over a window of variables.
use Rattle.std.proofs.Common.{◌≡◌, ℕ, ◌+◌, ◌<◌, ◌≤◌, ◌^◌, List, length, drop, get_or, ap, ◌∙◌, sym, arith, ℤ, pos, ◌+ℤ◌, ◌*ℤ◌, All, inl, inr}
use Rattle.std.specs.Prelude.{slice_index_or, slice_set, unsigned_abs}
use Rattle.std.proofs.lemmas.Int.{ints}
use Rattle.std.proofs.lemmas.List.{get_or-set_same, get_or-set_other}
use Rattle.std.proofs.lemmas.Bool.{cases_eq}
use Rattle.st_linear.specs.Linear.{AreEntries}
use Rattle.st_linear.proofs.Ints.{+ℤ-*ℤ}
use Rattle.st_linear.proofs.Joins.{none}
use Rattle.farkas_leaf.specs.Lines.{coefficient}
use Rattle.farkas_leaf.proofs.Coefficients.{left-own, left-other, left-slim, coefficient-slim}
use Rattle.farkas_leaf.proofs.Products.{product-size}

abbrev Entries : Type 0
Entries = List (ℕ × ℤ)

-- the sums so far, and what is left of the multiple, make the sums that are due
abbrev pub Due : ℕ → ℤ → Entries → Entries → List ℤ → List ℤ → Type 0
Due base by left es sums start = (j : ℕ) → j < 64 → slice_index_or sums j (pos 0) +ℤ coefficient (base + j) left *ℤ by ≡ slice_index_or start j (pos 0) +ℤ coefficient (base + j) es *ℤ by

-- an entry before the window
pub due-before : (base : ℕ) (by : ℤ) (es : Entries) (i : ℕ) (sums start : List ℤ) → i < length es → (get_or es i none).0 < base → Due base by (drop i es) es sums start → Due base by (drop (i + 1) es) es sums start
due-before base by es i sums start h l due j k = ap (λ c. slice_index_or sums j (pos 0) +ℤ c *ℤ by) (sym (left-other (base + j) es i h (λ e. omega (arith, e)))) ∙ due j k

-- an entry in the window
pub due-within : (base place : ℕ) (by r : ℤ) (es : Entries) (i : ℕ) (sums start : List ℤ) → i < length es → AreEntries (drop i es) → (get_or es i none).0 ≡ base + place → place < length sums
    → r ≡ slice_index_or sums place (pos 0) +ℤ (get_or es i none).1 *ℤ by
    → Due base by (drop i es) es sums start → Due base by (drop (i + 1) es) es (slice_set sums place r) start
due-within base place by r es i sums start h kept at within e due j k =
    let x : ℤ = (get_or es i none).1 in
    let rest : ℤ = coefficient (base + j) (drop (i + 1) es) in
    elim (cases_eq j place) [
      | inl same ↦
          let own = left-own (base + j) es i h kept (omega (arith, at, same)) in
          let new : slice_index_or (slice_set sums place r) j (pos 0) ≡ r = rw same (get_or-set_same sums place r (pos 0) within) in
          let old = rw own at (due j k) in
          let here = ap (λ m. slice_index_or sums m (pos 0)) same in
          rw new (omega (arith, ints, e, old, here, +ℤ-*ℤ x rest by))
      | inr other ↦
          let skipped = left-other (base + j) es i h (λ z. other (omega (arith, at, z))) in
          rw (get_or-set_other sums place j r (pos 0) other) (ap (λ c. slice_index_or sums j (pos 0) +ℤ c *ℤ by) (sym skipped) ∙ due j k)
    ]

-- a sum is not far from where it started
between : (s t x y : ℤ) → s +ℤ x ≡ t +ℤ y → unsigned_abs t ≤ 2 ^ 122 → unsigned_abs x ≤ 2 ^ 110 → unsigned_abs y ≤ 2 ^ 110 → unsigned_abs s ≤ 2 ^ 122 + 2 ^ 111
between s t x y e h k l = omega (arith, ints, e, h, k, l)

pub due-bounded : (base place : ℕ) (by : ℤ) (es : Entries) (i : ℕ) (sums start : List ℤ) → AreEntries es → AreEntries (drop i es) → All (λ e. unsigned_abs e.1 < 2 ^ 70) es → unsigned_abs by < 2 ^ 40
    → place < 64 → unsigned_abs (slice_index_or start place (pos 0)) ≤ 2 ^ 122 → Due base by (drop i es) es sums start → unsigned_abs (slice_index_or sums place (pos 0)) ≤ 2 ^ 122 + 2 ^ 111
due-bounded base place by es i sums start all_kept kept slim small h bound due =
    let left : ℤ = coefficient (base + place) (drop i es) in
    let whole : ℤ = coefficient (base + place) es in
    between (slice_index_or sums place (pos 0)) (slice_index_or start place (pos 0)) (left *ℤ by) (whole *ℤ by) (due place h) bound
    (product-size left by (left-slim (base + place) es i kept slim) small)
    (product-size whole by (coefficient-slim (base + place) es all_kept slim) small)
