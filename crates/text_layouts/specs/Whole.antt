-- What a piece of a text is: one token, or one comment.
use Rattle.std.specs.Prelude.{◌≡◌, ℕ, List, [], ◌∷◌, ◌++◌, length}
use Rattle.st_tokens.specs.declared.kind.TokenKind.TheVariants.{Name, Keyword, Numeral, Symbol}
use Rattle.st_tokens.specs.declared.kind.Front.{Front}
use Rattle.st_tokens.specs.declared.kind.Front.TheVariants.{Blank, Whole}
use Rattle.st_tokens.specs.Text.{front}
use Rattle.text_layouts.specs.declared.kind.PieceKind.{PieceKind}
use Rattle.text_layouts.specs.declared.kind.PieceKind.TheVariants.{Token, Comment}

-- a front of so many bytes: a token, or what is passed over
abbrev pub front_of : PieceKind → ℕ → Front
front_of (Token kind) n = Whole kind n
front_of Comment n = Blank n

-- in front of these bytes the piece is read as one, and nothing of them with it
abbrev pub Ends : PieceKind → List ℕ → List ℕ → Type 0
Ends kind text behind = front (text ++ behind) ≡ front_of kind (length text)

-- at the end of a line the bytes are read as one token, or as one comment
abbrev pub IsWhole : PieceKind → List ℕ → Type 0
IsWhole kind text = Ends kind text (10 ∷ [])

abbrev pub IsToken : PieceKind → Type 0
IsToken (Token kind) = Unit {0}
IsToken Comment = ⊥

-- a name, a keyword or a numeral
abbrev pub IsWord : PieceKind → Type 0
IsWord (Token Name) = Unit {0}
IsWord (Token Keyword) = Unit {0}
IsWord (Token Numeral) = Unit {0}
IsWord (Token Symbol) = ⊥
IsWord Comment = ⊥
