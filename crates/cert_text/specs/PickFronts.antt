-- A pick of a leaf in front of some bytes, which is read as a whole.
use Rattle.std.specs.Prelude.{◌≡◌, ℕ, ◌+◌, ◌<◌, ◌≤◌, ◌^◌, Bool, true, false, List, length, drop, slice_index}
use Rattle.std.specs.List.{prefix_len}
use Rattle.cert_text.specs.declared.pick_fronts.Pick.{Pick}
use Rattle.cert_text.specs.Letters.{is_digit}
use Rattle.cert_text.specs.Fronts.{number_by}

-- where the digits of a multiplier begin behind a `*`, with a `-` before them where it is negative and signs are allowed
abbrev pub IsFrom : Bool → Bool → ℕ → ℕ → List ℕ → Type 0
IsFrom signed true times from bs = (signed ≡ true) × ((slice_index bs (times + 1) ≡ 45) × (from ≡ times + 2))
IsFrom signed false times from bs = from ≡ times + 1

-- some bytes begin with a pick and go on behind it
pub record IsPick (signed : Bool) (p : Pick) (bs : List ℕ) : Type 0 where
  pub times : p.times ≡ prefix_len is_digit bs
  pub row : p.row ≡ number_by 0 bs
  pub named : 0 < p.times
  pub some : 0 < p.row
  pub short : p.row ≤ 4294967295
  pub star : slice_index bs p.times ≡ 42
  pub sign : IsFrom signed p.negative p.times p.from bs
  pub size : p.size ≡ number_by 0 (drop p.from bs)
  pub digits : p.end ≡ p.from + prefix_len is_digit (drop p.from bs)
  pub given : p.from < p.end
  pub small : p.size < 2 ^ 40
  pub more : p.end < length bs
