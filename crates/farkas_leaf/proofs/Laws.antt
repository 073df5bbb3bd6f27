-- Farkas' lemma, the direction that a checker needs: a negative constant is no sum of multiples of lines that hold.
use Rattle.std.proofs.Common.{◌≡◌, ℕ, zero, suc, Bool, true, false, List, [], ◌∷◌, map, refl, ap, ◌∙◌, arith, ℤ, pos, negsuc, ◌+ℤ◌, ◌*ℤ◌, ◌≤ℤ◌, All}
use Rattle.std.proofs.lemmas.Int.{ints}
use Rattle.std.proofs.Math.IntN.{zero-*ℤ}
use Rattle.st_linear.specs.Linear.{Linear, value, entries_value, scaled, number}
use Rattle.st_linear.specs.declared.rows.Line.{Line}
use Rattle.st_linear.proofs.Fitting.{value-sum_of, value-scaled}
use Rattle.farkas_leaf.specs.Leaf as of_rows
use Rattle.farkas_leaf.specs.Leaf.{as_row}
use Rattle.farkas_leaf.specs.Lines as of_lines
use Rattle.farkas_leaf.specs.Lines.{line_at, total, IsSigned, HoldsBy, Holds, AllHold, signed_picks}
use Rattle.farkas_leaf.proofs.RowLines.{closes-lines}

times_not_negative : (x m : ℤ) → pos 0 ≤ℤ x → pos 0 ≤ℤ m → pos 0 ≤ℤ (x *ℤ m)
times_not_negative (pos a) (pos m) h k = omega (arith, ints)
times_not_negative (negsuc a) m h k = absurd (omega (arith, ints))
times_not_negative x (negsuc m) h k = absurd (omega (arith, ints))

line_not_negative : (store : ℕ → ℤ) (form : Linear) (equal : Bool) (m : ℤ) → (equal ≡ false → pos 0 ≤ℤ m) → HoldsBy equal (value store form) → pos 0 ≤ℤ (value store form *ℤ m)
line_not_negative store form true m h k = let e = ap (λ x. x *ℤ m) k ∙ zero-*ℤ m in omega (arith, ints, e)
line_not_negative store form false m h k = times_not_negative (value store form) m k (h refl)

-- each line of a list holds, and so does the one that stands for lines that aren't there
pub AllHold-at : (store : ℕ → ℤ) (lines : List Line) (k : ℕ) → AllHold store lines → Holds store (line_at lines k)
AllHold-at store [] k h = refl
AllHold-at store (l ∷ ls) zero h = h.0
AllHold-at store (l ∷ ls) (suc k) h = AllHold-at store ls k h.1

total_not_negative : (store : ℕ → ℤ) (lines : List Line) (ps : List (ℕ × ℤ)) → IsSigned lines ps → AllHold store lines → pos 0 ≤ℤ value store (total lines ps)
total_not_negative store lines [] g k = omega (arith, ints)
total_not_negative store lines (p ∷ ps) g k =
    let line : Line = line_at lines p.0 in
    let first = line_not_negative store line.form line.equal p.1 g.0 (AllHold-at store lines p.0 k) in
    let rest = total_not_negative store lines ps g.1 k in
    let same = value-sum_of store (scaled p.1 line.form) (total lines ps) ∙ ap (λ x. x +ℤ value store (total lines ps)) (value-scaled store p.1 line.form) in
    omega (arith, ints, first, rest, same)

-- a negative constant is no sum of lines that hold
pub lines_no_solution : (lines : List Line) (picks : List (ℕ × ℤ)) → of_lines.Closes lines picks → of_lines.HaveNoSolution lines
lines_no_solution lines picks h store all =
    let least = total_not_negative store lines picks h.signed all in
    let constant = ap (λ es. (total lines picks).constant +ℤ entries_value store es) h.no_variable in
    absurd (omega (arith, ints, least, constant, h.negative))

rows_hold : (store : ℕ → ℤ) (rows : List Linear) → All (λ f. pos 0 ≤ℤ value store f) rows → AllHold store (map as_row rows)
rows_hold store [] h = tt
rows_hold store (f ∷ fs) h = (h 0 (number (pos 0)) (omega arith), rows_hold store fs (λ i d l. h (suc i) d (omega arith)))

pub rows_no_solution : (rows : List Linear) (picks : List (ℕ × ℕ)) → of_rows.Closes rows picks → of_rows.HaveNoSolution rows
rows_no_solution rows picks h store all = lines_no_solution (map as_row rows) (signed_picks (λ n. pos n) picks) ((closes-lines rows picks).0 h) store (rows_hold store rows all)
