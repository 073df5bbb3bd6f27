-- What the code asks of the start's equations: each number is below 2^32 in size.
use Rattle.std.specs.Prelude.{ℕ, ◌<◌, ◌^◌, List, [], ◌∷◌, ℤ, unsigned_abs}
use Rattle.st_linear.specs.Linear.{Linear}

abbrev pub AreSlightEntries : List (ℕ × ℤ) → Type 0
AreSlightEntries [] = Unit {0}
AreSlightEntries (e ∷ es) = (unsigned_abs e.1 < 2 ^ 32) × AreSlightEntries es

abbrev pub AreSlight : List Linear → Type 0
AreSlight [] = Unit {0}
AreSlight (f ∷ fs) = (unsigned_abs f.constant < 2 ^ 32) × AreSlightEntries f.entries × AreSlight fs
