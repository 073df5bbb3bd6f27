-- Texts in HTML: what would begin a tag or a reference, or end an attribute, is written as a reference.
use Rattle.std.specs.Prelude.{◌≢◌, ℕ, ◌==◌, if◌then◌else◌, List, [], ◌∷◌, ◌++◌, codes, ⊤}

-- `&`, `<`, `>` and `"` by name, any other byte as it is
abbrev pub escaped_byte : ℕ → List ℕ
escaped_byte b =
    if b == 38 then codes "&amp;"
    else (if b == 60 then codes "&lt;"
    else (if b == 62 then codes "&gt;"
    else (if b == 34 then codes "&quot;"
    else b ∷ [])))

abbrev pub escaped : List ℕ → List ℕ
escaped [] = []
escaped (b ∷ bs) = escaped_byte b ++ escaped bs

-- none of `<`, `>` and `"`: it begins no tag, and ends no attribute
pub record IsInert (b : ℕ) : Type 0 where
  pub not_less : b ≢ 60
  pub not_greater : b ≢ 62
  pub not_quote : b ≢ 34

abbrev pub AreInert : List ℕ → Type 0
AreInert [] = ⊤
AreInert (b ∷ bs) = IsInert b × AreInert bs

-- an escaped text has no `<`, no `>` and no `"`
abbrev pub EscapesAreInert : Type 0
EscapesAreInert = (text : List ℕ) → AreInert (escaped text)
