-- Tokens between which nothing has to stand.
use Rattle.std.specs.Prelude.{ℕ, Bool, false, ◌||◌, List, [], ◌∷◌, ◌==◌}

-- `,` `;` `)` `.` `*`: no byte of a word, and second in no symbol
abbrev pub is_break : List ℕ → Bool
is_break [] = false
is_break (b ∷ []) = b == 44 || (b == 59 || (b == 41 || (b == 46 || b == 42)))
is_break (b ∷ c ∷ bs) = false

-- `(` `~` `*` `.`: they begin no longer symbol
abbrev pub is_free : List ℕ → Bool
is_free [] = false
is_free (b ∷ []) = b == 40 || (b == 126 || (b == 42 || b == 46))
is_free (b ∷ c ∷ bs) = false
