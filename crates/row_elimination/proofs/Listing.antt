-- Lists of lines within the limits, one behind the other.
use Rattle.std.proofs.Common.{ℕ, List, [], ◌∷◌, ◌++◌}
use Rattle.st_linear.specs.declared.rows.Line.{Line}
use Rattle.row_elimination.specs.Runs.{AllWithin}
use Rattle.row_elimination.specs.Eliminations.{AreBelow}

pub within_joined : (xs ys : List Line) → AllWithin xs → AllWithin ys → AllWithin (xs ++ ys)
within_joined [] ys h k = k
within_joined (x ∷ xs) ys h k = (h.0, within_joined xs ys h.1 k)

pub below_joined : (n : ℕ) (xs ys : List Line) → AreBelow n xs → AreBelow n ys → AreBelow n (xs ++ ys)
below_joined n [] ys h k = k
below_joined n (x ∷ xs) ys h k = (h.0, below_joined n xs ys h.1 k)
