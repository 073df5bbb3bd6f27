-- Why the text of a program or of a proof is refused: the fault of its first place, or the limit that is passed there.
use Rattle.std.specs.Prelude.{◌≡◌, Option, Some, None, Result, Ok, Err}
use Rattle.st_tokens.specs.declared.kind.TokenFault.{TokenFault}
use Rattle.st_tokens.specs.declared.kind.TokenFault.TheVariants as tokens
use Rattle.st_reading.specs.Reading.{Stop, syntax, broken, other}
use Rattle.st_reading.specs.Faults.{Passed, passed}
use Rattle.expression_typer.specs.declared.fault.TypeFault.{TypeFault}
use Rattle.expression_typer.specs.declared.fault.TypeFault.TheVariants as faults
use Rattle.step_report.specs.declared.refusals.FaultKind.TheVariants as kinds
use Rattle.step_run.specs.declared.refusals.Refusal.{Refusal}
use Rattle.step_run.specs.declared.refusals.Refusal.TheVariants.{Fault, Limit, Memory}

abbrev pub of_token : TokenFault → Refusal
of_token (tokens.BadByte place) = Fault kinds.BadByte place
of_token (tokens.LongNumber place) = Fault kinds.LongNumber place

-- the first fault of the grammar of programs
abbrev pub of_stop : Stop Passed → Refusal
of_stop (syntax place) = Fault kinds.Syntax place
of_stop (broken f) = of_token f
of_stop (other (passed kind place)) = Limit kind

-- the first rule of typing that is broken
abbrev pub of_rule : TypeFault → Refusal
of_rule (faults.Unknown place) = Fault kinds.Unknown place
of_rule (faults.Twice place) = Fault kinds.Twice place
of_rule (faults.WrongType place) = Fault kinds.WrongType place
of_rule (faults.NonLinear place) = Fault kinds.NonLinear place
of_rule (faults.TooLarge place) = Fault kinds.TooLarge place
of_rule (faults.InputAssigned place) = Fault kinds.InputAssigned place
of_rule (faults.SelectHead place) = Fault kinds.SelectHead place
of_rule (faults.SameTarget place) = Fault kinds.SameTarget place
of_rule (faults.Limit kind place) = Limit kind
of_rule faults.Memory = Memory

-- what a refusal of the code is, where `see` tells the fault; want of memory else
abbrev pub IsRefusal : Refusal → Option (Stop Passed) → Type 0
IsRefusal r None = r ≡ Memory
IsRefusal r (Some f) = r ≡ of_stop f

-- want of memory is free; any other refusal is the text's
abbrev pub Fails : {Y : Type 0} → Refusal → Result Y Refusal → Type 0
Fails Memory text = Unit {0}
Fails refusal text = text ≡ Err refusal

-- what a call returned, seen by view, is what the text gives
abbrev pub Gives : {X Y : Type 0} → (X → Y) → Result X Refusal → Result Y Refusal → Type 0
Gives view (Ok x) text = text ≡ Ok (view x)
Gives view (Err refusal) text = Fails refusal text
