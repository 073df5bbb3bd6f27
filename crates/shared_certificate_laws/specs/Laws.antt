-- The laws of certificate texts of version 3: a text is read exactly where the grammar spells it, the first refused line is the
-- first that adds nothing of the grammar, and what is written is read.
use Rattle.std.specs.Prelude.{◌≡◌, ℕ, ◌+◌, ◌⊎◌, List, [], ◌∷◌, ◌++◌, length, Ok, Err}
use Rattle.shared_certificates.specs.declared.refusals.Refusal.{Refusal}
use Rattle.shared_certificates.specs.Nodes.{Shared, nothing_shared}
use Rattle.shared_certificates.specs.Lines.{lines, words}
use Rattle.shared_certificates.specs.Reading.{line_read, text_read}
use Rattle.shared_certificates.specs.Grammar.{Adds, AddAll, header_words}

abbrev pub Exactly : Type 0 → Type 0 → Type 0
Exactly A B = (A → B) × (B → A)

-- a line of words is read to what it adds
abbrev pub LineIsExact : Type 0
LineIsExact = (t u : Shared) (ws : List (List ℕ)) → Exactly (line_read t ws ≡ Ok u) (Adds t ws u)

-- the text spells these trees and certificates: a header, and lines that add them one after the other
pub record IsText (text : List ℕ) (t : Shared) : Type 0 where
  pub head : List ℕ
  pub others : List (List ℕ)
  pub is : lines text ≡ head ∷ others
  pub header : words head ≡ header_words
  pub adds : AddAll nothing_shared others t

abbrev pub TextIsExact : Type 0
TextIsExact = (text : List ℕ) (t : Shared) → Exactly (text_read (lines text) ≡ Ok t) (IsText text t)

-- a text stands for one table alone
abbrev pub ReadOnce : Type 0
ReadOnce = (text : List ℕ) (t u : Shared) → IsText text t → IsText text u → t ≡ u

-- how many bytes lines have, each with its line feed
abbrev pub bytes_in : List (List ℕ) → ℕ
bytes_in [] = 0
bytes_in (l ∷ ls) = length l + 1 + bytes_in ls

-- the lines before a place are those of a text, and with the one that stands there none goes on
pub record IsFirstWrong (text : List ℕ) (place : ℕ) : Type 0 where
  pub head : List ℕ
  pub front : List (List ℕ)
  pub wrong : List ℕ
  pub rest : List (List ℕ)
  pub is : lines text ≡ head ∷ (front ++ wrong ∷ rest)
  pub header : words head ≡ header_words
  pub before : Shared
  pub adds : AddAll nothing_shared front before
  pub none : (u : Shared) → Adds before (words wrong) u → ⊥
  pub there : place ≡ length head + 1 + bytes_in front

-- there is no first line, or it isn't the header
abbrev pub HasNoHeader : List (List ℕ) → Type 0
HasNoHeader [] = Unit {0}
HasNoHeader (l ∷ ls) = words l ≡ header_words → ⊥

-- a text is refused at a place exactly where the first line that is wrong stands there
abbrev pub RefusalIsExact : Type 0
RefusalIsExact =
    (text : List ℕ) (place : ℕ) → Exactly ((e : Refusal) × (text_read (lines text) ≡ Err (e, place))) ((HasNoHeader (lines text) × (place ≡ 0)) ⊎ IsFirstWrong text place)
