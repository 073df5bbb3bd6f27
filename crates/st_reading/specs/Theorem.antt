-- What a reader of a language promises: L says which tokens stand for which values.
use Rattle.std.specs.Prelude.{◌≡◌, List, [], ◌∷◌, ◌++◌, All}
use Rattle.st_tokens.specs.Stream.{◌++>◌, Lexeme, Stream, ends, breaks, more, IsSpelled}
use Rattle.st_reading.specs.Reading.{Stop, syntax, broken, other}

-- some text of the language begins with the tokens: those that follow are ones that texts have
abbrev pub Begins : {A : Type 0} → (List Lexeme → A → Type 0) → List Lexeme → Type 0
Begins {A} L ts = (us : List Lexeme) × All IsSpelled us × (x : A) × L (ts ++ us) x

-- the language goes on behind the tokens, be it with tokens that no text has
abbrev pub GoesOn : {A : Type 0} → (List Lexeme → A → Type 0) → List Lexeme → Type 0
GoesOn {A} L ts = (us : List Lexeme) × (x : A) × L (ts ++ us) x

-- Why nothing goes on at `rest`, behind the tokens ts. A fault that isn't the language's leaves open that a text goes on
-- over the token, and no text that is refused by the language alone has such a fault.
abbrev pub IsStuck : {X A : Type 0} → (List Lexeme → A → Type 0) → List Lexeme → Stop X → Stream → Type 0
IsStuck L ts (broken f) rest = rest ≡ breaks f
IsStuck {X} {A} L ts (syntax place) (ends end) = (place ≡ end) × ((x : A) → L ts x → ⊥)
IsStuck L ts (syntax place) (breaks f) = ⊥
IsStuck L ts (syntax place) (more t after) = (place ≡ t.start) × (GoesOn L (ts ++ t ∷ []) → ⊥)
IsStuck L ts (other x) rest = (t : Lexeme) × (after : Stream) × (rest ≡ more t after) × Begins L (ts ++ t ∷ [])

-- f is the first fault of s
pub record IsFirst {X A : Type 0} (L : List Lexeme → A → Type 0) (s : Stream) (f : Stop X) : Type 0 where
  pub text : List Lexeme
  pub rest : Stream
  pub is : s ≡ text ++> rest
  pub begins : Begins L text
  pub stuck : IsStuck L text f rest

-- A limit is met at a token of s: texts of the language go on over it, but none of those within the limits.
pub record IsMet {A : Type 0} (L Within : List Lexeme → A → Type 0) (s : Stream) : Type 0 where
  pub text : List Lexeme
  pub token : Lexeme
  pub after : Stream
  pub is : s ≡ text ++> more token after
  pub begins : Begins L (text ++ token ∷ [])
  pub none : GoesOn Within (text ++ token ∷ []) → ⊥
