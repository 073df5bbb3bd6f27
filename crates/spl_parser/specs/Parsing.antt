-- What a text is read to.
use Rattle.std.specs.Prelude.{◌≡◌, ℕ, List, Result, Ok, Err}
use Rattle.st_tokens.specs.Stream.{text_stream}
use Rattle.st_reading.specs.declared.fault.ParseFault.{ParseFault}
use Rattle.st_reading.specs.Reading.{Stop, IsStop, Read}
use Rattle.st_reading.specs.Faults.{Passed, see}
use Rattle.spl_parser.specs.ProgramTree.{Program}
use Rattle.spl_parser.specs.Programs.{program_of, usual}

-- the value, without what is left
abbrev pub alone : {X A : Type 0} → Read X A → Result A (Stop X)
alone (Ok x) = Ok x.0
alone (Err f) = Err f

-- the program that a text spells, or the first fault
abbrev pub parsed : List ℕ → Result Program (Stop Passed)
parsed text = alone (program_of usual (text_stream text))

-- What a call returned is what the text is read to; want of memory alone is free.
abbrev pub Parses : {V Y : Type 0} → (V → Y) → Result V ParseFault → Result Y (Stop Passed) → Type 0
Parses view (Ok x) read = read ≡ Ok (view x)
Parses view (Err e) read = IsStop (see e) read
