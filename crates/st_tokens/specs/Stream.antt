-- The tokens of a text, one after the other, up to its end or to the first fault.
use Rattle.std.specs.Prelude.{◌≡◌, ℕ, zero, suc, pred, ◌+◌, ◌-◌, ◌<◌, List, [], ◌∷◌, ◌++◌, take, drop, length, Option, Some, None, Result, Ok, Err}
use Rattle.st_tokens.specs.declared.kind.TokenKind.{TokenKind}
use Rattle.st_tokens.specs.declared.kind.Token.{Token}
use Rattle.st_tokens.specs.declared.kind.TokenFault.{TokenFault}
use Rattle.st_tokens.specs.declared.kind.TokenFault.TheVariants.{BadByte, LongNumber}
use Rattle.st_tokens.specs.declared.kind.Front.{Front}
use Rattle.st_tokens.specs.declared.kind.Front.TheVariants.{Blank, Whole, Bad, Long}
use Rattle.st_tokens.specs.declared.tokens.Tokens.{Tokens}
use Rattle.st_tokens.specs.Text.{front, front_at}

-- a token: its kind, its bytes, and the place of the first of them
pub record Lexeme : Type 0 where
  pub kind : TokenKind
  pub text : List ℕ
  pub start : ℕ

-- what is left of a text, token by token
pub data Stream : Type 0 where
  -- the text's end, at this place
  ends : ℕ → Stream
  breaks : TokenFault → Stream
  more : Lexeme → Stream → Stream

-- tokens, and then a stream
infixr 5 ◌++>◌
abbrev pub ◌++>◌ : List Lexeme → Stream → Stream
[] ++> s = s
(t ∷ ts) ++> s = more t (ts ++> s)

-- At `place`, what stands at the front of s. `go k` goes on where k more bytes are passed over.
abbrev pub begin : Front → ℕ → List ℕ → (ℕ → Stream) → Stream
begin (Blank n) place s go = go (pred n)
begin (Whole kind n) place s go = more (record { kind = kind; text = take n s; start = place }) (go (pred n))
begin Bad place s go = breaks (BadByte place)
begin Long place s go = breaks (LongNumber place)

-- The tokens of what is left of a text of length `end`, once the first `skip` bytes are passed over.
unfoldable pub lex : ℕ → ℕ → List ℕ → Stream
lex end skip [] = ends end
lex end zero (b ∷ bs) = begin (front_at b bs) (end - length (b ∷ bs)) (b ∷ bs) (λ k. lex end k bs)
lex end (suc skip) (b ∷ bs) = lex end skip bs

abbrev pub text_stream : List ℕ → Stream
text_stream text = lex (length text) 0 text

abbrev pub end_of : Tokens → ℕ
end_of t = t.end

abbrev pub lexeme : Token → Lexeme
lexeme t = record { kind = t.kind; text = t.text.now; start = t.start }

-- the tokens from the next one on, where s stands behind it
abbrev pub next_stream : ℕ → Result (Option Token) TokenFault → Stream → Stream
next_stream end (Ok None) s = ends end
next_stream end (Ok (Some t)) s = more (lexeme t) s
next_stream end (Err f) s = breaks f

abbrev pub stream : Tokens → Stream
stream t = next_stream t.end t.next (lex t.end 0 t.rest.now)

abbrev pub behind : Stream → Stream
behind (ends place) = ends place
behind (breaks f) = breaks f
behind (more t s) = s

-- what the next call answers
abbrev pub Answers : ℕ → Result (Option Token) TokenFault → Stream → Type 0
Answers end (Ok None) s = s ≡ ends end
Answers end (Ok (Some t)) s = s ≡ more (lexeme t) (behind s)
Answers end (Err f) s = s ≡ breaks f

-- where the next token or fault or the end is
abbrev pub first_place : Stream → ℕ
first_place (ends place) = place
first_place (breaks (BadByte place)) = place
first_place (breaks (LongNumber place)) = place
first_place (more t s) = t.start

-- each token stands before what follows it
abbrev pub IsRising : Stream → Type 0
IsRising (ends place) = Unit {0}
IsRising (breaks f) = Unit {0}
IsRising (more t s) = (t.start < first_place s) × IsRising s

-- Each token is what stands at the front of the text from its place on, and its bytes are those there.
abbrev pub AreThere : List ℕ → Stream → Type 0
AreThere text (ends place) = Unit {0}
AreThere text (breaks f) = Unit {0}
AreThere text (more t s) = ((n : ℕ) × (front (drop t.start text) ≡ Whole t.kind n) × (t.text ≡ take n (drop t.start text))) × AreThere text s

abbrev pub shifted_fault : ℕ → TokenFault → TokenFault
shifted_fault d (BadByte place) = BadByte (d + place)
shifted_fault d (LongNumber place) = LongNumber (d + place)

-- the same, that many bytes further on
abbrev pub shifted : ℕ → Stream → Stream
shifted d (ends place) = ends (d + place)
shifted d (breaks f) = breaks (shifted_fault d f)
shifted d (more t s) = more (record { kind = t.kind; text = t.text; start = d + t.start }) (shifted d s)

-- the bytes are those of one token
abbrev pub IsSpelled : Lexeme → Type 0
IsSpelled t = front t.text ≡ Whole t.kind (length t.text)

-- a text of the tokens, each with a line feed behind it
abbrev pub written : List Lexeme → List ℕ
written [] = []
written (t ∷ ts) = t.text ++ 10 ∷ written ts

-- the tokens where they stand in that text, from a place on
abbrev pub placed : ℕ → List Lexeme → Stream
placed place [] = ends place
placed place (t ∷ ts) = more (record { kind = t.kind; text = t.text; start = place }) (placed (place + length t.text + 1) ts)
