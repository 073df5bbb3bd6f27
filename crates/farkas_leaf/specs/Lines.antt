-- Farkas' lemma for rows (at least 0) and equations (0) over whole numbers: multiples of them whose sum is a negative constant
-- show that no values make each of them hold. Schrijver, Theory of Linear and Integer Programming, 1986, section 7.3.
use Rattle.std.specs.Prelude.{Bool, true, false, ◌≡◌, ℕ, ◌+◌, ◌<◌, ◌≤◌, ℤ, pos, ◌+ℤ◌, ◌≤ℤ◌, ◌<ℤ◌, List, [], ◌∷◌, length, slice_index_or, map, ◌==◌, if◌then◌else◌}
use Rattle.st_linear.specs.declared.rows.Line.{Line}
use Rattle.st_linear.specs.Linear.{Linear, value, number, sum_of, scaled}

-- what stands for a line that isn't there: an equation that always holds
abbrev pub no_line : Line
no_line = record { form = number (pos 0); equal = true }

abbrev pub line_at : List Line → ℕ → Line
line_at lines k = slice_index_or lines k no_line

-- the sum of the picked multiples
abbrev pub total : List Line → List (ℕ × ℤ) → Linear
total lines [] = number (pos 0)
total lines (p ∷ ps) = sum_of (scaled p.1 (line_at lines p.0).form) (total lines ps)

-- line numbers rise from low on, and are below n
abbrev pub RiseWithin : ℕ → ℕ → List (ℕ × ℤ) → Type 0
RiseWithin n low [] = Unit {0}
RiseWithin n low (p ∷ ps) = (low ≤ p.0) × (p.0 < n) × RiseWithin n (p.0 + 1) ps

-- no row has a negative multiplier
abbrev pub IsSigned : List Line → List (ℕ × ℤ) → Type 0
IsSigned lines [] = Unit {0}
IsSigned lines (p ∷ ps) = ((line_at lines p.0).equal ≡ false → pos 0 ≤ℤ p.1) × IsSigned lines ps

-- line numbers rise and are in range, no row has a negative multiplier, and the sum of the picked multiples is a negative constant
pub record Closes (lines : List Line) (picks : List (ℕ × ℤ)) : Type 0 where
  pub rising : RiseWithin (length lines) 0 picks
  pub signed : IsSigned lines picks
  pub no_variable : (total lines picks).entries ≡ []
  pub negative : (total lines picks).constant <ℤ pos 0

-- an equation is 0, and a row is at least 0
abbrev pub HoldsBy : Bool → ℤ → Type 0
HoldsBy true z = z ≡ pos 0
HoldsBy false z = pos 0 ≤ℤ z

-- a line holds in a store
abbrev pub Holds : (ℕ → ℤ) → Line → Type 0
Holds store l = HoldsBy l.equal (value store l.form)

abbrev pub AllHold : (ℕ → ℤ) → List Line → Type 0
AllHold store [] = Unit {0}
AllHold store (l ∷ ls) = Holds store l × AllHold store ls

-- no whole values make each line hold
abbrev pub HaveNoSolution : List Line → Type 0
HaveNoSolution lines = (store : ℕ → ℤ) → AllHold store lines → ⊥

-- the coefficient of a variable in a list of entries
abbrev pub coefficient : ℕ → List (ℕ × ℤ) → ℤ
coefficient v [] = pos 0
coefficient v (e ∷ es) = (if e.0 == v then e.1 else pos 0) +ℤ coefficient v es

-- picks with their multipliers as whole numbers
abbrev pub signed_picks : {M : Type 0} → (M → ℤ) → List (ℕ × M) → List (ℕ × ℤ)
signed_picks signed picks = map (λ p. (p.0, signed p.1)) picks

-- the sum of the picked multiples, where lines and multipliers are read from other types
abbrev pub picked_sum : {L M : Type 0} → (L → Line) → (M → ℤ) → List L → List (ℕ × M) → Linear
picked_sum line signed lines picks = total (map line lines) (signed_picks signed picks)
