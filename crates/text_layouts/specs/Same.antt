-- Two texts that say the same: they differ in blanks alone, and have the same tokens.
use Rattle.std.specs.Prelude.{◌≡◌, ℕ, List, [], ◌∷◌, ◌++◌, if◌then◌else◌}
use Rattle.st_tokens.specs.Text.{is_blank}
use Rattle.st_tokens.specs.Stream.{Lexeme, Stream, ends, breaks, more, text_stream}

-- the same token, wherever it stands
abbrev pub IsSame : Lexeme → Lexeme → Type 0
IsSame t u = (t.kind ≡ u.kind) × (t.text ≡ u.text)

-- the same tokens in the same order, wherever they stand, and no fault
abbrev pub AreSame : Stream → Stream → Type 0
AreSame (ends p) (ends q) = Unit {0}
AreSame (ends p) (breaks f) = ⊥
AreSame (ends p) (more u r) = ⊥
AreSame (breaks f) r = ⊥
AreSame (more t s) (ends q) = ⊥
AreSame (more t s) (breaks f) = ⊥
AreSame (more t s) (more u r) = IsSame t u × AreSame s r

-- the byte, but where it is a blank
abbrev pub mark_of : ℕ → List ℕ
mark_of b = if is_blank b then [] else b ∷ []

-- the bytes of a text that are no blanks
abbrev pub marks : List ℕ → List ℕ
marks [] = []
marks (b ∷ bs) = mark_of b ++ marks bs

abbrev pub SaysTheSame : List ℕ → List ℕ → Type 0
SaysTheSame text out = AreSame (text_stream text) (text_stream out) × (marks text ≡ marks out)
