-- What the grammar alone doesn't refuse, in any text, and readers that judge what they read. No definition of a reader answers
-- want of memory.
use Rattle.std.specs.Prelude.{◌≡◌, ℕ, Bool, cond, Option, Some, None, Result, Ok, Err}
use Rattle.st_tokens.specs.declared.limit.LimitKind.{LimitKind}
use Rattle.st_tokens.specs.Stream.{Stream, behind}
use Rattle.st_reading.specs.declared.fault.ParseFault.{ParseFault}
use Rattle.st_reading.specs.declared.fault.ParseFault.TheVariants as faults
use Rattle.st_reading.specs.declared.sign.Sign.{Sign}
use Rattle.st_reading.specs.declared.sign.Sign.TheVariants as signs
use Rattle.st_reading.specs.Reading.{Stop, syntax, broken, other, Read, IsStop, ahead, place_of, refusal, on_operator}
use Rattle.st_reading.specs.Rule.{Rule}

-- a rule that is broken, or a limit that is passed, with the place; the moves of a schedule have a limit of their own, and a
-- diagram tells that no formula goes on so from that it doesn't itself
pub data Breach : Type 0 where
  broke : Rule → ℕ → Breach
  limited : LimitKind → ℕ → Breach
  crowded : ℕ → Breach
  unformed : ℕ → Breach

abbrev pub Reader : Type 0 → Type 0
Reader A = Stream → Read Breach A

-- the value, unless it breaks a rule
abbrev pub unless : {A : Type 0} → Bool → Breach → A → Reader A
unless wrong breach x s = cond wrong (Err (other breach)) (Ok (x, s))

-- a value that has to be there
abbrev pub present : {A : Type 0} → Breach → Option A → Reader A
present breach None s = Err (other breach)
present breach (Some x) s = Ok (x, s)

abbrev pub numeral_in : Sign → Option ℕ
numeral_in (signs.Numeral n) = Some n
numeral_in _ = None

-- numeral: its value and its place
unfoldable pub numeral_of : Reader (ℕ × ℕ)
numeral_of s = on_operator (numeral_in (ahead s)) (Err (refusal s)) (λ n. Ok ((n, place_of s), behind s))

-- The code's fault is the grammar's refusal, and nothing else.
abbrev pub IsRefused : {A : Type 0} → ParseFault → Read Breach A → Type 0
IsRefused (faults.Syntax place) read = read ≡ Err (syntax place)
IsRefused (faults.Token f) read = read ≡ Err (broken f)
IsRefused (faults.Limit kind place) read = ⊥
IsRefused faults.Memory read = ⊥

-- What a function returned that only the grammar refuses, as `Reads` has it of all functions.
abbrev pub Refuses : {V Y : Type 0} → (V → Y) → Result V ParseFault → Stream → Read Breach Y → Type 0
Refuses view (Ok x) after read = read ≡ Ok (view x, after)
Refuses view (Err e) after read = IsRefused e read

-- what a text's own fault, seen so, makes of a refusal; whatever it makes of the others, no function that `Refuses` answers them
abbrev pub Takes : ParseFault → Option (Stop Breach) → Type 0
Takes (faults.Syntax place) seen = seen ≡ Some (syntax place)
Takes (faults.Token f) seen = seen ≡ Some (broken f)
Takes (faults.Limit kind place) seen = Unit {0}
Takes faults.Memory seen = Unit {0}

-- what was read, without what is left
abbrev pub alone : {X A : Type 0} → Read X A → Result A (Stop X)
alone (Ok x) = Ok x.0
alone (Err f) = Err f

-- What a call returned of a whole text, seen by view, is what the text is read to. Want of memory, which `see` doesn't see, is free.
abbrev pub Gives : {E X V Y : Type 0} → (E → Option (Stop X)) → (V → Y) → Result V E → Result Y (Stop X) → Type 0
Gives see view (Ok x) read = read ≡ Ok (view x)
Gives see view (Err e) read = IsStop (see e) read
