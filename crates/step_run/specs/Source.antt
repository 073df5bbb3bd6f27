-- The program that a text spells, typed and with its names.
use Rattle.std.specs.Prelude.{◌≡◌, ℕ, List, Result, Ok, Err}
use Rattle.st_reading.specs.Reading.{Stop}
use Rattle.st_reading.specs.Faults.{Passed}
use Rattle.spl_parser.specs.ProgramTree as raw
use Rattle.spl_parser.specs.Parsing.{parsed}
use Rattle.expression_typer.specs.declared.fault.TypeFault.{TypeFault}
use Rattle.spl_typer.specs.Programs.{Typed, typing}
use Rattle.step_run.specs.declared.refusals.Refusal.{Refusal}
use Rattle.step_run.specs.Refusals.{of_stop, of_rule}

abbrev pub source_typed : Result Typed TypeFault → Result Typed Refusal
source_typed (Ok p) = Ok p
source_typed (Err f) = Err (of_rule f)

abbrev pub source_of : Result raw.Program (Stop Passed) → Result Typed Refusal
source_of (Ok text) = source_typed (typing text)
source_of (Err f) = Err (of_stop f)

-- the program that a text spells, or why it is refused: the grammar comes before the rules of typing
unfoldable pub source_spelled : List ℕ → Result Typed Refusal
source_spelled text = source_of (parsed text)

-- some text spells it
abbrev pub IsSpelled : Typed → Type 0
IsSpelled p = (text : List ℕ) × (source_spelled text ≡ Ok p)
