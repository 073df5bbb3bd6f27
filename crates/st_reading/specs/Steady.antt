-- What a reader does depends on the tokens that it takes and on the next one alone, and what it took can be completed.
use Rattle.std.specs.Prelude.{◌≡◌, ℕ, Bool, true, List, [], ◌∷◌, ◌++◌, All, Ok, Err, ◌⊎◌}
use Rattle.st_tokens.specs.declared.kind.TokenFault.{TokenFault}
use Rattle.st_tokens.specs.Stream.{◌++>◌, Lexeme, Stream, ends, breaks, more, IsSpelled}
use Rattle.st_reading.specs.declared.sign.Sign.{Sign}
use Rattle.st_reading.specs.declared.sign.Sign.TheVariants as signs
use Rattle.st_reading.specs.Reading.{Stop, other, Read, ahead, refusal}

pub data Head : Type 0 where
  end : ℕ → Head
  fault : TokenFault → Head
  token : Lexeme → Head

-- what stands next
abbrev pub head : Stream → Head
head (ends place) = end place
head (breaks f) = fault f
head (more t s) = token t

-- the same stands next, or what continues nothing and chooses nothing
abbrev pub Follows : (Sign → Bool) → Stream → Stream → Type 0
Follows calm s after = (head after ≡ head s) ⊎ (calm (ahead after) ≡ true)

-- The tokens can be completed to a text that is read, whatever calm token follows, by tokens that texts have. Where
-- nothing was taken yet, what completes them begins with a token of `front`.
pub record Viable {X A : Type 0} (front calm : Sign → Bool) (r : Stream → Read X A) (ts : List Lexeme) : Type 0 where
  pub others : List Lexeme
  pub spelled : All IsSpelled others
  pub value : A
  pub begins : ts ≡ [] → (after : Stream) → calm (ahead after) ≡ true → front (ahead (others ++> after)) ≡ true
  pub reads : (after : Stream) → calm (ahead after) ≡ true → r (ts ++> (others ++> after)) ≡ Ok (value, after)

-- Why the fault stands there. The readers p have more room. They refuse what comes, too; or the room is used up, and
-- they go on over the token.
pub data Cause {I X A : Type 0} (front calm : Sign → Bool) (p : I → Stream → Read X A) (ts : List Lexeme) (f : Stop X) (rest : Stream) : Type 0 where
  refused : f ≡ refusal rest → ((i : I) (after : Stream) → head after ≡ head rest → p i (ts ++> after) ≡ Err f) → Cause front calm p ts f rest
  over : (x : X) (t : Lexeme) (after : Stream) → f ≡ other x → rest ≡ more t after → ((i : I) → Viable front calm (p i) (ts ++ t ∷ [])) → Cause front calm p ts f rest

-- At s the reader r and the readers p, which have more room, read the same tokens to the same value; or r stops there,
-- the readers p can complete what was taken, and the fault has its cause.
pub data SteadyAt {I X A : Type 0} (front calm : Sign → Bool) (r : Stream → Read X A) (p : I → Stream → Read X A) (s : Stream) : Type 0 where
  both : (ts : List Lexeme) (x : A) (rest : Stream) → s ≡ ts ++> rest
      → ((after : Stream) → Follows calm rest after → r (ts ++> after) ≡ Ok (x, after))
      → ((i : I) (after : Stream) → Follows calm rest after → p i (ts ++> after) ≡ Ok (x, after))
      → SteadyAt front calm r p s
  stops : (ts : List Lexeme) (f : Stop X) (rest : Stream) → s ≡ ts ++> rest
      → ((after : Stream) → head after ≡ head rest → r (ts ++> after) ≡ Err f)
      → ((i : I) → Viable front calm (p i) ts) → Cause front calm p ts f rest
      → SteadyAt front calm r p s

-- A second reader has a shortest text, whatever was read before, of tokens that texts have.
pub record Short {X A B : Type 0} (front calm : Sign → Bool) (r : A → Stream → Read X B) : Type 0 where
  pub text : A → List Lexeme
  pub spelled : (x : A) → All IsSpelled (text x)
  pub value : A → B
  pub begins : (x : A) (after : Stream) → calm (ahead after) ≡ true → front (ahead (text x ++> after)) ≡ true
  pub reads : (x : A) (after : Stream) → calm (ahead after) ≡ true → r x (text x ++> after) ≡ Ok (value x, after)

abbrev pub Within : (Sign → Bool) → (Sign → Bool) → Type 0
Within f h = (g : Sign) → f g ≡ true → h g ≡ true

-- What follows a second reader is told apart by the first: it is calm for both, or the second reader takes a token.
pub data Parts {X A B : Type 0} (calm calm2 : Sign → Bool) (q : A → Stream → Read X B) : Type 0 where
  calmer : Within calm2 calm → Parts calm calm2 q
  takes : calm2 signs.Nothing ≡ true → (f : A → Stop X) → ((x : A) → q x (ends 0) ≡ Err (f x)) → Parts calm calm2 q

-- What may begin the second reader may begin both, where the first takes nothing.
pub data Wide {X A : Type 0} (front front2 calm : Sign → Bool) (r : Stream → Read X A) : Type 0 where
  wider : Within front2 front → Wide front front2 calm r
  moves : calm signs.Nothing ≡ true → (f : Stop X) → r (ends 0) ≡ Err f → Wide front front2 calm r

abbrev pub anything : Sign → Bool
anything g = true
