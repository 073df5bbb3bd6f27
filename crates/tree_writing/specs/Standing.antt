-- A text of certificates while it is written, and where trees stand in it.
use Rattle.std.specs.Prelude.{◌≡◌, ℕ, ◌<◌, ◌≤◌, Bool, true, false, List, length, slice_index_or, slice_range, Option, Some, None}
use Rattle.st_certificate.specs.Tree.{Tree}
use Rattle.cert_text.specs.Spelling.{tree_text}
use Rattle.tree_table.specs.Table.{tree}
use Rattle.tree_writing.specs.declared.memo.Place.{Place}

-- the text was written whole; or it wasn't, since it would be longer than certificates may be
abbrev pub IsWritten : List ℕ → List ℕ → Bool → Type 0
IsWritten whole text true = (text ≡ whole) × (length whole ≤ 268435456)
IsWritten whole text false = 268435456 < length whole

-- this part of the text is there
abbrev pub IsPart : List ℕ → Place → Type 0
IsPart text p = (p.from ≤ p.to) × (p.to ≤ length text)

-- a place that is kept under a number is there, and where it is behind the begin of the block, the number's tree stands there
pub record IsPlace (ts : List Tree) (start : ℕ) (text : List ℕ) (n : ℕ) (p : Place) : Type 0 where
  pub part : IsPart text p
  pub same : start < p.from → slice_range text p.from p.to ≡ tree_text (tree ts n)

-- each place that is kept is there
pub record AreWithin (text : List ℕ) (kept : List (Option Place)) : Type 0 where
  pub each : (n : ℕ) (p : Place) → slice_index_or kept n None ≡ Some p → IsPart text p

-- each tree that is kept behind the begin of the block stands where it is said to
pub record Holds (ts : List Tree) (start : ℕ) (text : List ℕ) (kept : List (Option Place)) : Type 0 where
  pub each : (n : ℕ) (p : Place) → slice_index_or kept n None ≡ Some p → IsPlace ts start text n p

-- the text was written whole, and each tree that is kept stands where it is said to; or it would be too long
abbrev pub Goes : List Tree → ℕ → List ℕ → List ℕ → List (Option Place) → Bool → Type 0
Goes ts start whole text kept true = (text ≡ whole) × (length whole ≤ 268435456) × Holds ts start text kept
Goes ts start whole text kept false = 268435456 < length whole
