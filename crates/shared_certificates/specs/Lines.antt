-- The lines of a text and the words of a line.
use Rattle.std.specs.Prelude.{ℕ, Bool, false, not, ◌||◌, ◌==◌, if◌then◌else◌, List, [], ◌∷◌, map, length, take, drop, Option, Some, None, nat_lt, ◌+◌}
use Rattle.std.specs.List.{prefix_len}

-- a space, a tab, a carriage return
abbrev pub is_blank : ℕ → Bool
is_blank b = b == 32 || b == 9 || b == 13

abbrev pub is_line_feed : ℕ → Bool
is_line_feed b = b == 10

-- a byte in front of the first of some byte strings
abbrev pub onto_first : ℕ → List (List ℕ) → List (List ℕ)
onto_first b [] = (b ∷ []) ∷ []
onto_first b (l ∷ ls) = (b ∷ l) ∷ ls

-- the lines, without the line feed that ends each
abbrev pub lines : List ℕ → List (List ℕ)
lines [] = []
lines (b ∷ bs) = if is_line_feed b then [] ∷ lines bs else onto_first b (lines bs)

abbrev pub begins_word : List ℕ → Bool
begins_word [] = false
begins_word (b ∷ bs) = not (is_blank b)

-- the words of a line: bytes between blanks
abbrev pub words : List ℕ → List (List ℕ)
words [] = []
words (b ∷ bs) = if is_blank b then words bs else (if begins_word bs then onto_first b (words bs) else (b ∷ []) ∷ words bs)

-- how many bytes stand before the first one that is this
abbrev pub until : ℕ → List ℕ → ℕ
until sign w = prefix_len (λ b. not (b == sign)) w

-- what stands before a sign, and behind it
abbrev pub halves : ℕ → List ℕ → Option (List ℕ × List ℕ)
halves sign w = if nat_lt (until sign w) (length w) then Some (take (until sign w) w, drop (until sign w + 1) w) else None
