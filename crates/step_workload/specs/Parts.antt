-- Parts of texts that stand once for each process. A sign `#` in a part stands for the number of the process.
use Rattle.std.specs.Prelude.{ℕ, zero, suc, ◌+◌, ◌==◌, if◌then◌else◌, List, [], ◌∷◌, ◌++◌}
use Rattle.std.specs.Fmt.{decimal}

abbrev pub filled_byte : ℕ → ℕ → List ℕ
filled_byte n b = if b == 35 then decimal n else b ∷ []

-- the part with the number in the place of each sign
abbrev pub filled : ℕ → List ℕ → List ℕ
filled n [] = []
filled n (b ∷ bs) = filled_byte n b ++ filled n bs

-- the texts of so many numbers from the first on
abbrev pub each_from : (ℕ → List ℕ) → ℕ → ℕ → List ℕ
each_from text first zero = []
each_from text first (suc count) = text first ++ each_from text (first + 1) count

-- the part, left out for one number
abbrev pub filled_unless : ℕ → List ℕ → ℕ → List ℕ
filled_unless without part n = if n == without then [] else filled n part
