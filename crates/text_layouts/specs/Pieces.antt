-- A text in pieces: its tokens and comments.
use Rattle.std.specs.Prelude.{◌≡◌, ℕ, ◌==◌, Bool, false, List, [], ◌∷◌, ◌++◌, length}
use Rattle.st_tokens.specs.Text.{is_blank}
use Rattle.st_tokens.specs.Stream.{Lexeme, ◌++>◌, lex, text_stream}
use Rattle.text_layouts.specs.Same.{marks}
use Rattle.text_layouts.specs.Refused.{first_fault}
use Rattle.text_layouts.specs.declared.kind.PieceKind.{PieceKind}
use Rattle.text_layouts.specs.declared.kind.PieceKind.TheVariants.{Token, Comment}
use Rattle.text_layouts.specs.declared.piece.Piece.{Piece}

-- a blank stands at the front
abbrev pub starts_blank : List ℕ → Bool
starts_blank [] = false
starts_blank (b ∷ bs) = is_blank b

-- a comment stands at the front
abbrev pub starts_comment : List ℕ → Bool
starts_comment [] = false
starts_comment (b ∷ bs) = b == 37

-- the token that the bytes are, at no place; none of a comment
abbrev pub tokens_at : PieceKind → List ℕ → List Lexeme
tokens_at (Token kind) text = record { kind = kind; text = text; start = 0 } ∷ []
tokens_at Comment text = []

abbrev pub tokens_of : List Piece → List Lexeme
tokens_of [] = []
tokens_of (p ∷ ps) = tokens_at p.kind p.text.now ++ tokens_of ps

-- the bytes of all pieces that are no blanks
abbrev pub marks_of : List Piece → List ℕ
marks_of [] = []
marks_of (p ∷ ps) = marks p.text.now ++ marks_of ps

-- the pieces are those of the text before what is left of it
pub record AreBefore (text rest : List ℕ) (ps : List Piece) : Type 0 where
  pub tokens : lex 0 0 text ≡ tokens_of ps ++> lex 0 0 rest
  pub bytes : marks text ≡ marks_of ps ++ marks rest
  pub fault : first_fault (text_stream text) ≡ first_fault (lex (length text) 0 rest)

-- the pieces are those of the text, which has no fault
abbrev pub ArePieces : List ℕ → List Piece → Type 0
ArePieces text ps = AreBefore text [] ps
