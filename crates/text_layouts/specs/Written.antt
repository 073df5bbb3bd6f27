-- Pieces that are written down, with blanks between them.
use Rattle.std.specs.Prelude.{◌≡◌, ◌⊎◌, ℕ, true, codes, List, [], ◌∷◌, ◌++◌, Option, Some, None}
use Rattle.st_tokens.specs.Text.{is_blank}
use Rattle.st_tokens.specs.Stream.{◌++>◌, lex}
use Rattle.text_layouts.specs.Same.{marks}
use Rattle.text_layouts.specs.Whole.{Ends, IsWord}
use Rattle.text_layouts.specs.Pieces.{tokens_of, marks_of}
use Rattle.text_layouts.specs.declared.piece.Piece.{Piece}

abbrev pub AreBlank : List ℕ → Type 0
AreBlank [] = Unit {0}
AreBlank (b ∷ bs) = (is_blank b ≡ true) × AreBlank bs

-- in front of these bytes the last piece is read as it is; any bytes may follow where a line ended, or none was begun
abbrev pub EndsIn : Option Piece → List ℕ → Type 0
EndsIn None behind = Unit {0}
EndsIn (Some p) behind = Ends p.kind p.text.now behind

-- the bytes between the last piece and the next are blanks, and keep the one apart from the other
pub record IsGap (last : Option Piece) (gap : List ℕ) (next : List ℕ) : Type 0 where
  pub blank : AreBlank gap
  pub apart : (behind : List ℕ) → EndsIn last (gap ++ (next ++ behind))

-- with nothing between them the pieces are read as they are
abbrev pub AreApart : Piece → Piece → Type 0
AreApart p q = (behind : List ℕ) → Ends p.kind p.text.now (q.text.now ++ behind)

-- What is added to a text is read as these pieces, the last of which it ends with.
pub record Writes (old new : List ℕ) (ps : List Piece) (last : Option Piece) : Type 0 where
  pub added : List ℕ
  pub is : new ≡ old ++ added
  pub tokens : (behind : List ℕ) → EndsIn last behind → lex 0 0 (added ++ behind) ≡ tokens_of ps ++> lex 0 0 behind
  pub bytes : marks added ≡ marks_of ps

-- a word, or an opening bracket
abbrev pub BeginsOperand : Piece → Type 0
BeginsOperand p = IsWord p.kind ⊎ (p.text.now ≡ codes "(")
