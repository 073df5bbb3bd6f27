use Rattle.std.specs.Prelude.{◌≡◌, ℕ, ◌≤◌, false, List, [], ◌∷◌, length, ℤ, pos, ◌≤ℤ◌, ◌<ℤ◌, IsTrue, ◌^◌}
use Rattle.st_linear.specs.Linear.{Linear, number, sum_of, scaled, AreEntries, AllBelow}
use Rattle.st_linear.specs.declared.rows.Line.{Line}
use Rattle.st_linear.specs.Linear.{are_within}

-- each multiplier is below 2^40 in size, and there are at most 4096
pub record IsLimited (picks : List (ℕ × ℤ)) : Type 0 where
  pub within : IsTrue (are_within (2 ^ 40) picks)
  pub few : length picks ≤ 4096

-- a multiplier for each line, at least 0 for a row
abbrev pub AreMultipliers : List Line → List ℤ → Type 0
AreMultipliers [] ms = ms ≡ []
AreMultipliers (l ∷ ls) [] = ⊥
AreMultipliers (l ∷ ls) (m ∷ ms) = (l.equal ≡ false → pos 0 ≤ℤ m) × AreMultipliers ls ms

-- the sum of the multiples
abbrev pub sum_by : List Line → List ℤ → Linear
sum_by [] ms = number (pos 0)
sum_by (l ∷ ls) [] = number (pos 0)
sum_by (l ∷ ls) (m ∷ ms) = sum_of (scaled m l.form) (sum_by ls ms)

-- no multiples of the lines sum to a negative constant, however large the multipliers are
abbrev pub HaveNoRefutation : List Line → Type 0
HaveNoRefutation lines = (ms : List ℤ) → AreMultipliers lines ms → (sum_by lines ms).entries ≡ [] → (sum_by lines ms).constant <ℤ pos 0 → ⊥

-- variables rise and are below n, and no coefficient is 0
abbrev pub AreProper : ℕ → List Line → Type 0
AreProper n [] = Unit {0}
AreProper n (l ∷ ls) = AreEntries l.form.entries × AllBelow n l.form.entries × AreProper n ls
