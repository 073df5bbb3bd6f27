-- Whether the columns of entries are below a number.
use Rattle.std.specs.Prelude.{ℕ, Bool, true, ◌&&◌, nat_lt, List, [], ◌∷◌, ℤ}

abbrev pub are_below : ℕ → List (ℕ × ℤ) → Bool
are_below n [] = true
are_below n (e ∷ es) = nat_lt e.0 n && are_below n es
