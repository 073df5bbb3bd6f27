-- Names of texts, and the names of a typed program.
use Rattle.std.specs.Prelude.{◌≡◌, ℕ, true, false, List, [], ◌∷◌, ◌++◌, Ok}
use Rattle.st_tokens.specs.Text.{is_letter, is_word_byte, is_keyword}
use Rattle.st_program.specs.Names.{Names, AreApart, names_in}
use Rattle.spl_parser.specs.ProgramTree.{Program}
use Rattle.spl_parser.specs.Theorems.{Spells}
use Rattle.spl_typer.specs.Programs.{Typed, typing}

-- letters, digits and underscores
abbrev pub AreWordBytes : List ℕ → Type 0
AreWordBytes [] = Unit {0}
AreWordBytes (b ∷ bs) = (is_word_byte b ≡ true) × AreWordBytes bs

-- a name: a letter, and behind it letters, digits and underscores; and no keyword
abbrev pub IsWord : List ℕ → Type 0
IsWord [] = ⊥
IsWord (b ∷ bs) = (is_letter b ≡ true) × AreWordBytes bs × (is_keyword (b ∷ bs) ≡ false)

abbrev pub AreWords : List (List ℕ) → Type 0
AreWords [] = Unit {0}
AreWords (x ∷ xs) = IsWord x × AreWords xs

-- the names of variables and the labels are names of texts, and no two are the same
pub record AreNames (t : Names) : Type 0 where
  pub variables : AreWords (names_in t.variables)
  pub labels : AreWords (names_in t.labels)
  pub apart : AreApart (names_in t.variables ++ names_in t.labels)

-- those of a program that a text spells are
abbrev pub NamesAreWords : Type 0
NamesAreWords = (text : List ℕ) (x : Program) (p : Typed) → Spells text x → typing x ≡ Ok p → AreNames p.names
