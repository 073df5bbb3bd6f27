-- What may stand behind a name or a number.
use Rattle.std.specs.Prelude.{◌≡◌, ℕ, false, List, [], ◌∷◌}
use Rattle.st_tokens.specs.Text.{is_word_byte}

-- the text doesn't go on with a letter, a digit or an underscore
abbrev pub IsLoose : List ℕ → Type 0
IsLoose [] = Unit {0}
IsLoose (b ∷ bs) = is_word_byte b ≡ false
