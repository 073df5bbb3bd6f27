-- Faults of the code, as readers on streams name them.
use Rattle.std.specs.Prelude.{◌≡◌, ℕ, Option, Some, None}
use Rattle.st_tokens.specs.declared.limit.LimitKind.{LimitKind}
use Rattle.st_tokens.specs.Stream.{Stream}
use Rattle.st_reading.specs.declared.fault.ParseFault.{ParseFault}
use Rattle.st_reading.specs.declared.fault.ParseFault.TheVariants as faults
use Rattle.st_reading.specs.declared.looking.RawName.{RawName}
use Rattle.st_reading.specs.Reading.{Stop, syntax, broken, other, Label, refusal}

-- a limit that is passed at a place
pub data Passed : Type 0 where
  passed : LimitKind → ℕ → Passed

abbrev pub see : ParseFault → Option (Stop Passed)
see (faults.Syntax place) = Some (syntax place)
see (faults.Token f) = Some (broken f)
see (faults.Limit kind place) = Some (other (passed kind place))
see faults.Memory = None

abbrev pub IsRefusal : ParseFault → Stream → Type 0
IsRefusal e s = see e ≡ Some (refusal s)

abbrev pub name_view : RawName → Label
name_view n = record { text = n.text.now; place = n.place }
