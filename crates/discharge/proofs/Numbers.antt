-- The numbers of pieces.
use Rattle.std.proofs.Common.{◌≡◌, ℕ, zero, suc, ◌+◌, ◌-◌, ◌/◌, ◌<◌, ◌≤◌, arith, inl, inr, ◌⊎◌, subst, Bool}
use Rattle.std.specs.Prelude.{IsTrue}
use Rattle.discharge.specs.Pieces.{IsPiece, EachPiece, whole, left, right}

pub below-or-from : (m n : ℕ) → (m < n) ⊎ (n ≤ m)
below-or-from m zero = inr (omega arith)
below-or-from zero (suc n) = inl (omega arith)
below-or-from (suc m) (suc n) = elim (below-or-from m n) [ inl l ↦ inl (omega (arith, l)) | inr l ↦ inr (omega (arith, l)) ]

pub piece-within : (first workers count piece : ℕ) → 0 < workers → IsPiece first workers count piece → (first ≤ piece) × (piece < first + workers)
piece-within first workers count piece some (whole h) = (omega arith, omega (arith, some))
piece-within first workers count piece some (left w c h) =
    let r = piece-within first (workers / 2) (count / 2) piece (omega (arith, w)) h in
    (r.0, omega (arith, r.1))
piece-within first workers count piece some (right w c h) =
    let r = piece-within (first + workers / 2) (workers - workers / 2) (count - count / 2) piece (omega (arith, w)) h in
    (omega (arith, r.0), omega (arith, r.1, w))

-- by so many steps of halving as there are workers
some-within : (steps first workers count : ℕ) → workers ≤ steps → (piece : ℕ) × IsPiece first workers count piece
some-within zero first workers count s = (first, whole (inl (omega (arith, s))))
some-within (suc steps) first workers count s =
    elim (below-or-from workers 2) [
      | inl l ↦ (first, whole (inl l))
      | inr w ↦ elim (below-or-from count 2) [
        | inl l ↦ (first, whole (inr l))
        | inr c ↦ let r = some-within steps first (workers / 2) (count / 2) (omega (arith, s, w)) in (r.0, left w c r.1)
      ]
    ]

pub some-piece : (first workers count : ℕ) → (piece : ℕ) × IsPiece first workers count piece
some-piece first workers count = some-within workers first workers count (omega arith)

-- with no fewer conditions than workers no number is left out
each-within : (steps first workers count piece : ℕ) → workers ≤ steps → workers ≤ count → first ≤ piece → piece < first + workers → IsPiece first workers count piece
each-within zero first workers count piece s e from below = absurd (omega (arith, s, from, below))
each-within (suc steps) first workers count piece s e from below =
    elim (below-or-from workers 2) [
      | inl l ↦ let same : first ≡ piece = omega (arith, l, from, below) in subst (IsPiece first workers count) same (whole (inl l))
      | inr w ↦ elim (below-or-from piece (first + workers / 2)) [
        | inl l ↦ left w (omega (arith, w, e)) (each-within steps first (workers / 2) (count / 2) piece (omega (arith, s, w)) (omega (arith, e)) from l)
        | inr r ↦ right w (omega (arith, w, e)) (each-within steps (first + workers / 2) (workers - workers / 2) (count - count / 2) piece (omega (arith, s, w)) (omega (arith, e)) r (omega (arith, below, w)))
      ]
    ]

pub each-number : (first workers count piece : ℕ) → workers ≤ count → first ≤ piece → piece < first + workers → IsPiece first workers count piece
each-number first workers count piece = each-within workers first workers count piece (omega arith)

-- ---- what holds of each piece
pub each-alone : (first workers count : ℕ) (test : ℕ → Bool) → (workers < 2) ⊎ (count < 2) → IsTrue (test first) → EachPiece first workers count test
each-alone first workers count test few h piece (whole w) = h
each-alone first workers count test (inl w) h piece (left some more p) = absurd (omega (arith, w, some))
each-alone first workers count test (inr w) h piece (left some more p) = absurd (omega (arith, w, more))
each-alone first workers count test (inl w) h piece (right some more p) = absurd (omega (arith, w, some))
each-alone first workers count test (inr w) h piece (right some more p) = absurd (omega (arith, w, more))

pub each-both : (first workers count : ℕ) (test : ℕ → Bool) → 2 ≤ workers → 2 ≤ count → EachPiece first (workers / 2) (count / 2) test
    → EachPiece (first + workers / 2) (workers - workers / 2) (count - count / 2) test → EachPiece first workers count test
each-both first workers count test some more h g piece (whole (inl w)) = absurd (omega (arith, w, some))
each-both first workers count test some more h g piece (whole (inr w)) = absurd (omega (arith, w, more))
each-both first workers count test some more h g piece (left w c p) = h piece p
each-both first workers count test some more h g piece (right w c p) = g piece p
