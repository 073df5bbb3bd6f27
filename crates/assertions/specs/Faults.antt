-- Why no formula is read: the first fault of the grammar, or else the first rule of typing that is broken.
use Rattle.std.specs.Prelude.{◌≡◌, Option, Some, None, ⊤}
use Rattle.std.specs.Option.{option_map}
use Rattle.st_tokens.specs.declared.limit.LimitKind.{LimitKind}
use Rattle.st_tokens.specs.declared.limit.LimitKind.TheVariants as limits
use Rattle.st_reading.specs.declared.fault.ParseFault.{ParseFault}
use Rattle.st_reading.specs.Reading.{Stop, syntax, broken, other}
use Rattle.st_reading.specs.Faults as parsing
use Rattle.st_reading.specs.Faults.{Passed, passed}
use Rattle.st_reading.specs.Rule as rules
use Rattle.st_reading.specs.Breaches.{Breach, broke, limited, crowded}
use Rattle.expression_typer.specs.declared.fault.TypeFault.{TypeFault}
use Rattle.expression_typer.specs.declared.fault.TypeFault.TheVariants as typing
use Rattle.assertions.specs.declared.fault.FormFault.{FormFault}
use Rattle.assertions.specs.declared.fault.FormFault.TheVariants as faults

-- a fault of the code, as readers name it
abbrev pub see : FormFault → Option (Stop Breach)
see (faults.Syntax place) = Some (syntax place)
see (faults.Token f) = Some (broken f)
see (faults.Unknown place) = Some (other (broke rules.Unknown place))
see (faults.WrongType place) = Some (other (broke rules.WrongType place))
see (faults.NonLinear place) = Some (other (broke rules.NonLinear place))
see (faults.TooLarge place) = Some (other (broke rules.TooLarge place))
see (faults.Nesting place) = Some (other (limited limits.Nesting place))
see faults.Memory = None

-- a fault of the grammar; the one limit of a formula is that on nesting
abbrev pub of_stop : Stop Passed → Stop Breach
of_stop (syntax place) = syntax place
of_stop (broken f) = broken f
of_stop (other (passed kind place)) = other (limited limits.Nesting place)

-- A rule of typing. No expression's typing is want of memory, nor any rule of declarations and statements
-- (`form_faults_are_named`).
abbrev pub of_rule : TypeFault → Breach
of_rule (typing.Unknown place) = broke rules.Unknown place
of_rule (typing.Twice place) = broke rules.Twice place
of_rule (typing.WrongType place) = broke rules.WrongType place
of_rule (typing.NonLinear place) = broke rules.NonLinear place
of_rule (typing.TooLarge place) = broke rules.TooLarge place
of_rule (typing.InputAssigned place) = broke rules.InputAssigned place
of_rule (typing.SelectHead place) = broke rules.SelectHead place
of_rule (typing.SameTarget place) = broke rules.SameTarget place
of_rule (typing.Limit kind place) = limited kind place
of_rule typing.Memory = crowded 0

-- what the code makes of a fault of typing
abbrev pub from_typing : TypeFault → FormFault
from_typing (typing.Unknown place) = faults.Unknown place
from_typing (typing.WrongType place) = faults.WrongType place
from_typing (typing.NonLinear place) = faults.NonLinear place
from_typing (typing.TooLarge place) = faults.TooLarge place
from_typing _ = faults.Memory

-- what the code makes of a fault of reading
abbrev pub IsSeen : ParseFault → FormFault → Type 0
IsSeen e fault = see fault ≡ option_map of_stop (parsing.see e)

abbrev pub IsNesting : LimitKind → Type 0
IsNesting limits.Nesting = ⊤
IsNesting _ = ⊥

-- the faults that a formula may have
abbrev pub IsOfForms : Stop Breach → Type 0
IsOfForms (syntax place) = ⊤
IsOfForms (broken f) = ⊤
IsOfForms (other (broke rules.Unknown place)) = ⊤
IsOfForms (other (broke rules.WrongType place)) = ⊤
IsOfForms (other (broke rules.NonLinear place)) = ⊤
IsOfForms (other (broke rules.TooLarge place)) = ⊤
IsOfForms (other (limited kind place)) = IsNesting kind
IsOfForms _ = ⊥
