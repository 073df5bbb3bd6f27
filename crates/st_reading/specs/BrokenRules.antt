-- Texts that break a rule: the first fault of a text whose grammar asks no rules, with the rules that its trees break beside it.
use Rattle.std.specs.Prelude.{◌≡◌, ℕ, List, [], ◌∷◌, ◌++◌, length, All}
use Rattle.st_tokens.specs.Stream.{◌++>◌, Lexeme, Stream, more, IsSpelled}
use Rattle.st_reading.specs.Reading.{Stop}
use Rattle.st_reading.specs.Theorem.{IsFirst}

-- A rule that is broken. It is found at a token: `found` tokens end with that one.
pub record Broken (X : Type 0) : Type 0 where
  pub found : ℕ
  pub fault : X

-- Some text of the grammar begins with the tokens `front`, and the first rule that it breaks is found broken at the last of
-- them. So it is with each that goes on as s does, over the next token.
pub record BreaksAt {X A : Type 0} (L : List Lexeme → A → Type 0) (rules : A → List (Broken X)) (s : Stream) (fault : X) : Type 0 where
  pub front : List Lexeme
  pub rest : Stream
  pub is_cut : s ≡ front ++> rest
  pub others : List Lexeme
  pub spelled : All IsSpelled others
  pub tree : A
  pub spells : L (front ++ others) tree
  pub first : Broken X
  pub further : List (Broken X)
  pub breaks : rules tree ≡ first ∷ further
  pub found : first.found ≡ length front
  pub named : first.fault ≡ fault
  pub settled : (t : Lexeme) (after : Stream) → rest ≡ more t after → (us : List Lexeme) (x : A) → L ((front ++ t ∷ []) ++ us) x → (bs : List (Broken X)) × (rules x ≡ first ∷ bs)

-- The grammar doesn't go on, for a fault of its own, and no rule is broken in what begins the text.
pub record StopsAt {X A : Type 0} (L : List Lexeme → A → Type 0) (rules : A → List (Broken X)) (Plain : Stop X → Type 0) (s : Stream) (f : Stop X) : Type 0 where
  pub plain : Plain f
  pub first : IsFirst L s f
  pub sound : (fault : X) → BreaksAt L rules s fault → ⊥
