-- How the work on a range of conditions is cut into pieces, and how these are numbered.
use Rattle.std.specs.Prelude.{ℕ, ◌+◌, ◌-◌, ◌/◌, ◌<◌, ◌≤◌, ◌⊎◌, Bool, IsTrue}

-- A range of conditions with so many workers, whose leftmost piece has the number `first`, has a piece of this number.
-- With fewer than two workers or fewer than two conditions it is one piece. Any other range is cut in two: the first half
-- of the conditions goes to half of the workers, and the rest to the others, whose pieces are numbered behind those.
pub data IsPiece : ℕ → ℕ → ℕ → ℕ → Type 0 where
  whole : {first workers count : ℕ} → (workers < 2) ⊎ (count < 2) → IsPiece first workers count first
  left : {first workers count piece : ℕ} → 2 ≤ workers → 2 ≤ count → IsPiece first (workers / 2) (count / 2) piece → IsPiece first workers count piece
  right : {first workers count piece : ℕ} → 2 ≤ workers → 2 ≤ count → IsPiece (first + workers / 2) (workers - workers / 2) (count - count / 2) piece → IsPiece first workers count piece

-- the test holds of the number of each piece of the range
abbrev pub EachPiece : ℕ → ℕ → ℕ → (ℕ → Bool) → Type 0
EachPiece first workers count test = (piece : ℕ) → IsPiece first workers count piece → IsTrue (test piece)
