-- Farkas' lemma for rows alone: multiples by natural numbers whose sum is a negative constant show that no values make each row
-- at least 0. It is the case of lines without an equation.
use Rattle.std.specs.Prelude.{◌≡◌, ℕ, ◌+◌, ◌<◌, ◌≤◌, ℤ, pos, ◌≤ℤ◌, ◌<ℤ◌, List, [], ◌∷◌, length, slice_index_or, All, false}
use Rattle.st_linear.specs.declared.rows.Line.{Line}
use Rattle.st_linear.specs.Linear.{Linear, value, number, sum_of, scaled}

abbrev pub row_at : List Linear → ℕ → Linear
row_at rows k = slice_index_or rows k (number (pos 0))

-- the sum of the picked multiples
abbrev pub total : List Linear → List (ℕ × ℕ) → Linear
total rows [] = number (pos 0)
total rows (p ∷ ps) = sum_of (scaled (pos p.1) (row_at rows p.0)) (total rows ps)

-- row numbers rise from low on, and are below n
abbrev pub RiseWithin : ℕ → ℕ → List (ℕ × ℕ) → Type 0
RiseWithin n low [] = Unit {0}
RiseWithin n low (p ∷ ps) = (low ≤ p.0) × (p.0 < n) × RiseWithin n (p.0 + 1) ps

-- row numbers rise and are in range, and the sum of the picked multiples is a negative constant
pub record Closes (rows : List Linear) (picks : List (ℕ × ℕ)) : Type 0 where
  pub rising : RiseWithin (length rows) 0 picks
  pub no_variable : (total rows picks).entries ≡ []
  pub negative : (total rows picks).constant <ℤ pos 0

-- no whole values make each row at least 0
abbrev pub HaveNoSolution : List Linear → Type 0
HaveNoSolution rows = (store : ℕ → ℤ) → All (λ f. pos 0 ≤ℤ value store f) rows → ⊥

-- a row as a line that is no equation
abbrev pub as_row : Linear → Line
as_row f = record { form = f; equal = false }
