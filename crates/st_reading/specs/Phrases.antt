-- Texts behind marks, texts that may be left out, and texts behind one another.
use Rattle.std.specs.Prelude.{List, None, Option, Some, [], length, ◌++◌, ◌∷◌, ◌≤◌}
use Rattle.st_tokens.specs.Stream.{Lexeme}
use Rattle.st_reading.specs.Spelling.{Is, Row}
use Rattle.st_reading.specs.declared.mark.Mark.{Mark}
use Rattle.st_reading.specs.declared.mark.Mark.TheVariants as marks

-- mark item
pub data After {A : Type 0} (mark : Mark) (item : List Lexeme → A → Type 0) : List Lexeme → A → Type 0 where
  after_mark : (t : Lexeme) (ts : List Lexeme) (x : A) → Is mark t → item ts x → After mark item (t ∷ ts) x

-- [ mark item ]
pub data Optional {A : Type 0} (mark : Mark) (item : List Lexeme → A → Type 0) : List Lexeme → Option A → Type 0 where
  left_out : Optional mark item [] None
  put_in : (t : Lexeme) (ts : List Lexeme) (x : A) → Is mark t → item ts x → Optional mark item (t ∷ ts) (Some x)

-- { item }
pub data Many {A : Type 0} (item : List Lexeme → A → Type 0) : List Lexeme → List A → Type 0 where
  none_more : Many item [] []
  one_more : (a b : List Lexeme) (x : A) (xs : List A) → item a x → Many item b xs → Many item (a ++ b) (x ∷ xs)

-- "[" item { ";" item } "]", at most 64 items
pub data Bracketed {A : Type 0} (item : List Lexeme → A → Type 0) : List Lexeme → List A → Type 0 where
  bracketed : (t u : Lexeme) (ts : List Lexeme) (xs : List A) → Is marks.OpenBlock t → Row marks.Semicolon item ts xs → length xs ≤ 64 → Is marks.CloseBlock u → Bracketed item (t ∷ ts ++ u ∷ []) xs
