-- What is promised of the texts of programs.
use Rattle.std.specs.Prelude.{◌≡◌, ℕ, ◌+◌, ◌≤◌, false, List, length, Option, Some, None, Result, Ok, Err, ◌⊎◌}
use Rattle.st_tokens.specs.declared.limit.LimitKind.{LimitKind}
use Rattle.st_tokens.specs.declared.limit.LimitKind.TheVariants as limits
use Rattle.st_tokens.specs.Stream.{◌++>◌, Lexeme, ends, text_stream}
use Rattle.st_reading.specs.declared.fault.ParseFault.{ParseFault}
use Rattle.st_reading.specs.Reading.{Stop, other}
use Rattle.st_reading.specs.Faults.{Passed, passed, see}
use Rattle.st_reading.specs.Theorem.{IsFirst, IsMet}
use Rattle.spl_parser.specs.ProgramTree.{Program}
use Rattle.expression_parser.specs.Grammar.{SpellsWithin}
use Rattle.spl_parser.specs.Grammar.{Low, IsProgram, SpellsProgram}
use Rattle.spl_parser.specs.Numbers.{declared, declared_inside, in_processes, IsWithin}
use Rattle.spl_parser.specs.Parsing.{parsed}

-- The tokens spell the program within its limits. With 32 statements round it, a statement stands at the 33rd level.
pub record SpellsWithinLimits (ts : List Lexeme) (x : Program) : Type 0 where
  pub spells : IsProgram (SpellsWithin false 32) (Low (SpellsWithin false 32) 33) ts x
  pub numbers : IsWithin x

-- the tokens of the text, up to its end
abbrev pub HasTokens : List ℕ → List Lexeme → Type 0
HasTokens text ts = (place : ℕ) × (text_stream text ≡ ts ++> ends place)

-- the text spells the program within its limits
abbrev pub Spells : List ℕ → Program → Type 0
Spells text x = (ts : List Lexeme) × HasTokens text ts × SpellsWithinLimits ts x

-- No tokens stand for two programs, whatever the limits.
abbrev pub ReadOnce : Type 0
ReadOnce = (ts : List Lexeme) (x y : Program) → SpellsProgram ts x → SpellsProgram ts y → x ≡ y

abbrev pub SpelledIsRead : Type 0
SpelledIsRead = (text : List ℕ) (x : Program) → Spells text x → parsed text ≡ Ok x

abbrev pub ReadIsSpelled : Type 0
ReadIsSpelled = (text : List ℕ) (x : Program) → parsed text ≡ Ok x → Spells text x

-- What is refused is refused at its first fault: the tokens before it begin a program, and with it none goes on.
abbrev pub FirstFault : Type 0
FirstFault = (text : List ℕ) (f : Stop Passed) → parsed text ≡ Err f → IsFirst SpellsProgram (text_stream text) f

-- A program by the grammar that isn't within its limits is refused for a limit.
abbrev pub LimitsRefuse : Type 0
LimitsRefuse = (text : List ℕ) (ts : List Lexeme) (x : Program) → HasTokens text ts → SpellsProgram ts x → SpellsWithinLimits ts x ⊎ ((p : Passed) × (parsed text ≡ Err (other p)))

-- The tokens spell the program, and it is within that one limit, whatever the others. Other kinds are no limits of programs.
abbrev pub IsWithinOne : LimitKind → List Lexeme → Program → Type 0
IsWithinOne limits.Variables ts x = SpellsProgram ts x × (declared x.declarations + declared_inside x.processes ≤ 64)
IsWithinOne limits.Processes ts x = SpellsProgram ts x × (length x.processes ≤ 16)
IsWithinOne limits.Statements ts x = SpellsProgram ts x × (in_processes x.processes ≤ 400)
IsWithinOne limits.Nesting ts x = IsProgram (SpellsWithin false 32) (Low (SpellsWithin false 32) 33) ts x
IsWithinOne _ ts x = SpellsProgram ts x

-- A limit is named only at a token over which programs go on, but none within that limit.
abbrev pub LimitsAreMet : Type 0
LimitsAreMet = (text : List ℕ) (kind : LimitKind) (place : ℕ) → parsed text ≡ Err (other (passed kind place)) → IsMet SpellsProgram (IsWithinOne kind) (text_stream text)

-- Why a text is refused: no program within the limits is spelled, and the fault is the first. Want of memory, which
-- `see` doesn't see, says nothing.
abbrev pub IsRefused : List ℕ → Option (Stop Passed) → Type 0
IsRefused text None = Unit {0}
IsRefused text (Some f) = ((x : Program) → Spells text x → ⊥) × IsFirst SpellsProgram (text_stream text) f

-- What a call returned is the program that the text spells within the limits, or the first fault of a text that spells none.
abbrev pub IsReading : {V : Type 0} → (V → Program) → Result V ParseFault → List ℕ → Type 0
IsReading view (Ok x) text = Spells text (view x)
IsReading view (Err e) text = IsRefused text (see e)
