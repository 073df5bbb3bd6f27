-- Tokens of a text stand at rising places, and its names are ASCII.
use Rattle.std.proofs.Common.{◌≡◌, ℕ, suc, ◌≤◌, true, List, [], ◌∷◌, ◌++◌, arith}
use Rattle.st_tokens.specs.Stream.{◌++>◌, Lexeme, Stream, ends, first_place, IsRising, AreThere, text_stream}
use Rattle.st_tokens.proofs.Rising.{starts_rise}
use Rattle.st_tokens.proofs.Shifting.{tokens_are_there}
use Rattle.st_reading.specs.Spelling.{IsName}
use Rattle.expression_typer.specs.Naming.{is_text}
use Rattle.typing_laws.proofs.Names.{name_plain}

-- a name's bytes are ASCII
abbrev pub IsPlainName : Lexeme → Type 0
IsPlainName t = IsName t → is_text t.text ≡ true

-- the tokens stand at rising places, from one place on and before another
abbrev pub Stand : ℕ → ℕ → List Lexeme → Type 0
Stand from to [] = from ≤ to
Stand from to (t ∷ ts) = (from ≤ t.start) × IsPlainName t × Stand (suc t.start) to ts

pub stand_within : (from to : ℕ) (ts : List Lexeme) → Stand from to ts → from ≤ to
stand_within from to [] h = h
stand_within from to (t ∷ ts) h = let k = stand_within (suc t.start) to ts h.2 in omega (arith, h.0, k)

pub stand_from : (a b to : ℕ) (ts : List Lexeme) → a ≤ b → Stand b to ts → Stand a to ts
stand_from a b to [] h k = omega (arith, h, k)
stand_from a b to (t ∷ ts) h k = (omega (arith, h, k.0), k.1, k.2)

pub stand_to : (from a b : ℕ) (ts : List Lexeme) → a ≤ b → Stand from a ts → Stand from b ts
stand_to from a b [] h k = omega (arith, h, k)
stand_to from a b (t ∷ ts) h k = (k.0, k.1, stand_to (suc t.start) a b ts h k.2)

-- Two stretches, one behind the other, meet at a place between.
pub record Meet (from to : ℕ) (a b : List Lexeme) : Type 0 where
  pub mid : ℕ
  pub first : Stand from mid a
  pub second : Stand mid to b

pub meet : (from to : ℕ) (a b : List Lexeme) → Stand from to (a ++ b) → Meet from to a b
meet from to [] b h = record { mid = from; first = omega arith; second = h }
meet from to (t ∷ a) b h = let m = meet (suc t.start) to a b h.2 in record { mid = m.mid; first = (h.0, h.1, m.first); second = m.second }

-- the first of two stretches reaches to the end of the second
pub first_to : (from to : ℕ) (a b : List Lexeme) → Meet from to a b → Stand from to a
first_to from to a b m = stand_to from m.mid to a (stand_within m.mid to b m.second) m.first

-- what is known of a text's tokens one by one
stands : (ts : List Lexeme) (text : List ℕ) (from place : ℕ) → from ≤ first_place (ts ++> ends place) → IsRising (ts ++> ends place) → AreThere text (ts ++> ends place) → Stand from place ts
stands [] text from place h r a = h
stands (t ∷ ts) text from place h r a = (h, name_plain text t a.0.0 a.0.1 a.0.2, stands ts text (suc t.start) place r.0 r.1 a.1)

pub text_stands : (text : List ℕ) (ts : List Lexeme) (place : ℕ) → text_stream text ≡ ts ++> ends place → Stand 0 place ts
text_stands text ts place e = go (text_stream text) e (starts_rise text) (tokens_are_there text)
  where
    go : (s : Stream) → s ≡ ts ++> ends place → IsRising s → AreThere text s → Stand 0 place ts
    go s i r a = stands ts text 0 place (omega arith) (rw i at r) (rw i at a)
