-- Reading from a stream of tokens, from left to right, up to the first fault that is met.
use Rattle.std.specs.Prelude.{◌≡◌, ℕ, zero, suc, Bool, true, false, cond, List, [], ◌∷◌, ◌++◌, Option, Some, None, Result, Ok, Err}
use Rattle.st_tokens.specs.declared.kind.TokenFault.{TokenFault}
use Rattle.st_tokens.specs.declared.kind.TokenFault.TheVariants.{BadByte, LongNumber}
use Rattle.st_tokens.specs.Stream.{Lexeme, Stream, ends, breaks, more, behind}
use Rattle.st_reading.specs.declared.mark.Mark.{Mark}
use Rattle.st_reading.specs.declared.sign.Sign.{Sign}
use Rattle.st_reading.specs.declared.sign.Sign.TheVariants as signs
use Rattle.st_reading.specs.Sign.{sign_of, is}

-- why nothing more is read; `other` are the faults that the grammar alone doesn't have, as limits
pub data Stop (X : Type 0) : Type 0 where
  syntax : ℕ → Stop X
  broken : TokenFault → Stop X
  other : X → Stop X

-- a value and what is left, or the fault
abbrev pub Read : Type 0 → Type 0 → Type 0
Read X A = Result (A × Stream) (Stop X)

infixl 10 ◌>>=◌
abbrev pub ◌>>=◌ : {E A B : Type 0} → Result A E → (A → Result B E) → Result B E
(Ok x) >>= f = f x
(Err e) >>= f = Err e

-- what stands ahead
abbrev pub ahead : Stream → Sign
ahead (ends place) = signs.Nothing
ahead (breaks f) = signs.Nothing
ahead (more t s) = sign_of t

abbrev pub fault_place : TokenFault → ℕ
fault_place (BadByte place) = place
fault_place (LongNumber place) = place

abbrev pub place_of : Stream → ℕ
place_of (ends place) = place
place_of (breaks f) = fault_place f
place_of (more t s) = t.start

-- the refusal of what stands ahead
abbrev pub refusal : {X : Type 0} → Stream → Stop X
refusal (ends place) = syntax place
refusal (breaks f) = broken f
refusal (more t s) = syntax t.start

-- a name, and its place
pub record Label : Type 0 where
  pub text : List ℕ
  pub place : ℕ

abbrev pub label_of : Lexeme → Label
label_of t = record { text = t.text; place = t.start }

-- the next token as a name
abbrev pub name_of : Stream → Label
name_of (ends place) = record { text = []; place = 0 }
name_of (breaks f) = record { text = []; place = 0 }
name_of (more t s) = label_of t

abbrev pub is_name : Sign → Bool
is_name signs.Name = true
is_name _ = false

-- the token that is wanted; the value is its place
abbrev pub expected : {X : Type 0} → Mark → Stream → Read X ℕ
expected wanted s = cond (is (ahead s) wanted) (Ok (place_of s, behind s)) (Err (refusal s))

-- a name
abbrev pub named : {X : Type 0} → Stream → Read X Label
named s = cond (is_name (ahead s)) (Ok (name_of s, behind s)) (Err (refusal s))

abbrev pub gives : {X A : Type 0} → A → Stream → Read X A
gives x s = Ok (x, s)

-- one reader, and behind it another
abbrev pub then_reads : {X A B : Type 0} → (Stream → Read X A) → (A → Stream → Read X B) → Stream → Read X B
then_reads r q s = r s >>= λ x. q x.0 x.1

-- where a chain ends, and where it goes on
pub data Turn (B S : Type 0) : Type 0 where
  leaves : B → Turn B S
  goes : S → Turn B S

abbrev pub on_operator : {O A : Type 0} → Option O → A → (O → A) → A
on_operator None done go = done
on_operator (Some o) done go = go o

abbrev pub turned : {X B S : Type 0} → (S → Stream → Read X B) → Turn B S → Stream → Read X B
turned next (leaves b) s = Ok (b, s)
turned next (goes x) s = next x s

-- Links behind one another: each begins with an operator and changes what was read; `finish` reads what stands
-- where no operator comes. `fuel` is at least the number of tokens.
unfoldable pub chain : {X O B S : Type 0} → (Sign → Option O) → (O → ℕ → S → Stream → Read X (Turn B S)) → (S → Stream → Read X B) → ℕ → S → Stream → Read X B
chain op turn finish zero x s = finish x s
chain op turn finish (suc k) x s = on_operator (op (ahead s)) (finish x s) (λ o. turn o (place_of s) x (behind s) >>= λ y. turned (λ z m. chain op turn finish k z m) y.0 y.1)

-- how many tokens come before the end or the fault
abbrev pub size : Stream → ℕ
size (ends place) = 0
size (breaks f) = 0
size (more t s) = suc (size s)

-- the mark, or nothing
abbrev pub only : Mark → Sign → Option (Unit {0})
only mark g = cond (is g mark) (Some tt) None

-- a further item of a list
abbrev pub listing : {X A B : Type 0} → (Stream → Read X A) → Unit {0} → ℕ → List A → Stream → Read X (Turn B (List A))
listing r o place xs = then_reads r (λ x. gives (goes (xs ++ x ∷ [])))

-- further items behind a mark
abbrev pub further : {X A : Type 0} → Mark → (Stream → Read X A) → List A → Stream → Read X (List A)
further mark r xs s = chain (only mark) (listing r) gives (size s) xs s

-- a value, and what is carried on from it to what is read next, as counts
abbrev pub Carried : Type 0 → Type 0 → Type 0
Carried N A = A × N

-- a further item of a list, which takes over what the one before it carries on
abbrev pub counting : {X O N A B : Type 0} → (O → N → Stream → Read X (Carried N A)) → O → ℕ → Carried N (List A) → Stream → Read X (Turn B (Carried N (List A)))
counting r o place xs = then_reads (r o xs.1) (λ x. gives (goes (xs.0 ++ x.0 ∷ [], x.1)))

-- further items behind a mark
abbrev pub linked : {X N A : Type 0} → Mark → (N → Stream → Read X (Carried N A)) → Carried N (List A) → Stream → Read X (Carried N (List A))
linked mark r xs s = chain (only mark) (counting (λ o. r)) gives (size s) xs s

-- a value, and how many there are then of what is counted
abbrev pub Counted : Type 0 → Type 0
Counted A = Carried ℕ A

-- the text ends
unfoldable pub at_end : {X : Type 0} → Stream → Read X (Unit {0})
at_end (ends place) = Ok (tt, ends place)
at_end (breaks f) = Err (refusal (breaks f))
at_end (more t s) = Err (refusal (more t s))

-- a reader, and nothing behind it
abbrev pub whole : {X A : Type 0} → (Stream → Read X A) → Stream → Read X A
whole r = then_reads r (λ x. then_reads at_end (λ e. gives x))

-- Want of memory, which `see` doesn't see, is free; any other fault is that of the reading.
abbrev pub IsStop : {X Y : Type 0} → Option (Stop X) → Result Y (Stop X) → Type 0
IsStop None read = Unit {0}
IsStop (Some f) read = read ≡ Err f

-- What a function returned, seen by view, with the tokens that it left, is what reading gives.
abbrev pub Reads : {E X V Y : Type 0} → (E → Option (Stop X)) → (V → Y) → Result V E → Stream → Read X Y → Type 0
Reads see view (Ok x) after read = read ≡ Ok (view x, after)
Reads see view (Err e) after read = IsStop (see e) read
