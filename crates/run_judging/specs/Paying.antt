-- What the end of a round owes to each name, in numbers.
use Rattle.std.specs.Prelude.{◌≡◌, ℕ, suc, ◌≤◌, ◌<◌, ◌⊎◌, ◌==◌, List, Bool, false, if◌then◌else◌, slice_get, slice_index, unwrap_or, option_map, ⊤}
use Rattle.std.specs.declared.option.Option.{Option}
use Rattle.std.specs.declared.option.Option.TheVariants.{Some, None}
use Rattle.observations.specs.declared.Fairness.{Fairness}
use Rattle.observations.specs.declared.Fairness.TheVariants.{Unfair, Just, Compassionate}
use Rattle.run_judging.specs.declared.ahead.Ahead.{Ahead}

-- whether the flag of the name is set
abbrev pub is_on : List Bool → ℕ → Bool
is_on row name = unwrap_or (slice_get row name) false

-- whether the step has the name
abbrev pub is_of : Option ℕ → ℕ → Bool
is_of None name = false
is_of (Some other) name = other == name

-- what is ahead one position earlier, where the name is enabled or not, and taken or not
abbrev pub earlier : ℕ → Bool → Bool → Ahead → Ahead
earlier k enabled taken a = record {
  served = (if taken then suc k else a.served);
  off = (if enabled then a.off else k);
  on = (if enabled then k else a.on);
}

-- nothing is ahead: all comes at the position that stands for never
abbrev pub nothing : ℕ → Ahead
nothing never = record { served = never; off = never; on = never }

-- each name has what is ahead one position earlier
abbrev pub LooksBack : List Ahead → ℕ → List Bool → Option ℕ → List Ahead → Type 0
LooksBack old k row taken new =
    (name : ℕ) → slice_get new name ≡ option_map (earlier k (is_on row name) (is_of taken name)) (slice_get old name)

-- an end at the position pays what is owed to the name
abbrev pub Pays : Fairness → Ahead → ℕ → Type 0
Pays Unfair a l = ⊤
Pays Just a l = (a.served ≤ l) ⊎ (a.off ≤ l)
Pays Compassionate a l = a.on ≤ l → a.served ≤ l

pub record PaysAll (fairness : List Fairness) (aheads : List Ahead) (l : ℕ) : Type 0 where
  pub each : (name : ℕ) (f : Fairness) (a : Ahead) → slice_get fairness name ≡ Some f → slice_get aheads name ≡ Some a → Pays f a l

-- an end at l meets each demand that is made up to l: such a demand asks for a position that isn't beyond l
pub record Meets (demands : List ℕ) (l : ℕ) : Type 0 where
  pub met : (from : ℕ) → from ≤ l → slice_index demands from ≤ l

-- one more than the greatest of the counts at positions below the end which meet the demands, or 0 where there is none
pub record IsMost (demands counts : List ℕ) (end n : ℕ) : Type 0 where
  pub found : (n ≡ 0) ⊎ ((l : ℕ) × (l < end) × Meets demands l × (n ≡ suc (slice_index counts l)))
  pub most : (l : ℕ) → l < end → Meets demands l → suc (slice_index counts l) ≤ n
