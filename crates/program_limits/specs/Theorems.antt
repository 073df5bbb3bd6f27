-- What is promised of the limits of programs.
use Rattle.std.specs.Prelude.{◌≡◌, ℕ, false, List, ◌++◌, Ok, Err, ◌↔◌}
use Rattle.st_tokens.specs.declared.limit.LimitKind.{LimitKind}
use Rattle.st_tokens.specs.declared.limit.LimitKind.TheVariants as limits
use Rattle.st_tokens.specs.Stream.{◌++>◌, Lexeme, Stream, text_stream}
use Rattle.st_reading.specs.Reading.{other}
use Rattle.st_reading.specs.Faults.{Passed, passed}
use Rattle.st_reading.specs.Theorem.{Begins}
use Rattle.expression_parser.specs.Grammar.{SpellsWithin}
use Rattle.spl_parser.specs.ProgramTree.{Program}
use Rattle.spl_parser.specs.Grammar.{Low, IsProgram, SpellsProgram}
use Rattle.spl_parser.specs.Theorems.{HasTokens}
use Rattle.spl_parser.specs.Parsing.{parsed}
use Rattle.program_limits.specs.Order.{program_counts, AreWithin, IsFirstPassed}

-- The tokens spell the program, each formula of which is within its 32 levels. Nothing else is limited.
abbrev pub SpellsShallow : List Lexeme → Program → Type 0
SpellsShallow ts x = (round : ℕ) × IsProgram (SpellsWithin false 32) (Low (SpellsWithin false 32) round) ts x

-- What the text of a program is read to.
pub record IsAnswered (text : List ℕ) (x : Program) : Type 0 where
  -- the program, exactly where it is within the limits
  pub taken : (parsed text ≡ Ok x) ↔ AreWithin (program_counts x)
  -- a limit, exactly where that one is passed first, and there
  pub refused : (c : Passed) → (parsed text ≡ Err (other c)) ↔ IsFirstPassed (program_counts x) c

abbrev pub LimitsInOrder : Type 0
LimitsInOrder = (text : List ℕ) (ts : List Lexeme) (x : Program) → HasTokens text ts → SpellsShallow ts x → IsAnswered text x

-- The first tokens of s settle for programs of L that a limit is passed: some program begins so, and each of L that does passes
-- this limit first, there.
pub record IsSettled (L : List Lexeme → Program → Type 0) (s : Stream) (c : Passed) : Type 0 where
  pub text : List Lexeme
  pub rest : Stream
  pub is : s ≡ text ++> rest
  pub begins : Begins SpellsProgram text
  pub each : (us : List Lexeme) (x : Program) → L (text ++ us) x → IsFirstPassed (program_counts x) c

-- For which programs a limit is settled: for all; that on nesting, where no formula passes it.
abbrev pub Concerned : LimitKind → List Lexeme → Program → Type 0
Concerned limits.Nesting ts x = SpellsShallow ts x
Concerned _ ts x = SpellsProgram ts x

-- A limit is named only where the tokens read settle that it is passed, whatever comes behind them.
abbrev pub LimitsAreSettled : Type 0
LimitsAreSettled = (text : List ℕ) (kind : LimitKind) (place : ℕ) → parsed text ≡ Err (other (passed kind place)) → IsSettled (Concerned kind) (text_stream text) (passed kind place)

-- No text settles two for all programs.
abbrev pub OneIsSettled : Type 0
OneIsSettled = (s : Stream) (c d : Passed) → IsSettled SpellsProgram s c → IsSettled SpellsProgram s d → c ≡ d
