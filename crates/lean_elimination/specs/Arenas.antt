-- What the rows of an arena stand for: the lines of the definition, each with its multiples of input lines.
use Rattle.std.specs.Prelude.{◌≡◌, ℕ, ◌+◌, ◌<◌, ◌≤◌, ◌^◌, Bool, true, false, ◌&&◌, List, [], ◌∷◌, ◌++◌, length, map, ℤ, pos, Option, Some, None, slice_index_or}
use Rattle.st_linear.specs.Linear.{are_within, number}
use Rattle.elimination_laws.specs.Mixing.{Tracked, mixed_entries}
use Rattle.lean_elimination.specs.declared.row.Row.{Row}
use Rattle.lean_elimination.specs.declared.row.Origin.{Origin}
use Rattle.lean_elimination.specs.declared.row.Origin.TheVariants.{Input, Sum}

-- what stands at a place where there is no row
abbrev pub blank : Tracked
blank = record { form = number (pos 0); equal = false; picks = [] }

abbrev pub row_at : List Tracked → ℕ → Tracked
row_at ts k = slice_index_or ts k blank

-- the rows at these places
abbrev pub listed : List Tracked → List ℕ → List Tracked
listed ts ks = map (row_at ts) ks

abbrev pub if_mixed : Option (List (ℕ × ℤ)) → List (ℕ × ℤ)
if_mixed None = []
if_mixed (Some ps) = ps

-- the multiples of a row, from those of the rows before it
abbrev pub picks_by : List Tracked → Origin → List (ℕ × ℤ)
picks_by done (Input k) = (k, pos 1) ∷ []
picks_by done (Sum p) = if_mixed (mixed_entries (2 ^ 40) p.x (row_at done p.first).picks p.y (row_at done p.second).picks)

abbrev pub tracked_row : List Tracked → Row → Tracked
tracked_row done r = record {
  form = record { constant = r.constant; entries = r.entries.items };
  equal = r.equal;
  picks = picks_by done r.origin;
}

-- the rows one by one, each made of those before it
abbrev pub tracks_from : List Tracked → List Row → List Tracked
tracks_from done [] = done
tracks_from done (r ∷ rs) = tracks_from (done ++ tracked_row done r ∷ []) rs

abbrev pub tracks : List Row → List Tracked
tracks rs = tracks_from [] rs

-- no multiple of a row is above its bound in size
abbrev pub are_bounded : List Row → List Tracked → Bool
are_bounded [] ts = true
are_bounded (r ∷ rs) [] = false
are_bounded (r ∷ rs) (t ∷ ts) = are_within (r.bound + 1) t.picks && are_bounded rs ts

-- each place is below n
abbrev pub AllUnder : ℕ → List ℕ → Type 0
AllUnder n [] = Unit {0}
AllUnder n (k ∷ ks) = (k < n) × AllUnder n ks

-- an arena with more rows
pub record IsGrown (old new : List Row) : Type 0 where
  pub more : List Tracked
  pub is : tracks new ≡ tracks old ++ more
  pub longer : length old ≤ length new

-- a row that stands for a line that is made, in an arena with more rows
pub record IsMade (old new : List Row) (k : ℕ) (line : Option Tracked) : Type 0 where
  pub grown : IsGrown old new
  pub under : k < length new
  pub same : line ≡ Some (row_at (tracks new) k)
