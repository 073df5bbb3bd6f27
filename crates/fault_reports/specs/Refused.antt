-- Where a text is refused: the byte that `step` names.
use Rattle.std.specs.Prelude.{ℕ, if◌then◌else◌, nat_lt, List, [], ◌∷◌, length, Option, Some, None, Result, Ok, Err}
use Rattle.std.specs.Option.{option_map}
use Rattle.transition_system.specs.Plain.{plain_system}
use Rattle.st_program.specs.Plain.{plain_children}
use Rattle.st_reading.specs.Reading.{Stop, syntax, broken, other, fault_place}
use Rattle.st_reading.specs.declared.fault.ParseFault.{ParseFault}
use Rattle.st_reading.specs.Faults.{Passed, passed}
use Rattle.st_reading.specs.Faults as parsing
use Rattle.st_reading.specs.Breaches.{Breach, broke, limited, crowded, unformed}
use Rattle.expression_typer.specs.declared.fault.TypeFault.{TypeFault}
use Rattle.expression_typer.specs.declared.fault.TypeFault.TheVariants as typing_faults
use Rattle.spl_parser.specs.ProgramTree as raw
use Rattle.spl_parser.specs.Parsing.{parsed}
use Rattle.spl_typer.specs.Programs.{typing}
use Rattle.posed_conditions.specs.declared.translated.TranslatedProgram.{TranslatedProgram}
use Rattle.proof_script.specs.Script.{script_spelled}
use Rattle.schedule_reader.specs.Schedules.{schedule_spelled}
use Rattle.proof_script.specs.declared.fault.ScriptFault.{ScriptFault}
use Rattle.proof_script.specs.Faults as scripts
use Rattle.schedule_reader.specs.declared.fault.ScheduleFault.{ScheduleFault}
use Rattle.schedule_reader.specs.Faults as schedules

abbrev pub passed_place : Passed → ℕ
passed_place (passed kind place) = place

abbrev pub breach_place : Breach → ℕ
breach_place (broke rule place) = place
breach_place (limited kind place) = place
breach_place (crowded place) = place
breach_place (unformed place) = place

-- where a reader stops
abbrev pub stop_place : {X : Type 0} → (X → ℕ) → Stop X → ℕ
stop_place at (syntax place) = place
stop_place at (broken fault) = fault_place fault
stop_place at (other x) = at x

-- where a rule of typing is broken; the rules don't answer want of memory
abbrev pub typing_place : TypeFault → Option ℕ
typing_place (typing_faults.Unknown place) = Some place
typing_place (typing_faults.Twice place) = Some place
typing_place (typing_faults.WrongType place) = Some place
typing_place (typing_faults.NonLinear place) = Some place
typing_place (typing_faults.TooLarge place) = Some place
typing_place (typing_faults.InputAssigned place) = Some place
typing_place (typing_faults.SelectHead place) = Some place
typing_place (typing_faults.SameTarget place) = Some place
typing_place (typing_faults.Limit kind place) = Some place
typing_place typing_faults.Memory = None

-- where what a text is read to is refused
abbrev pub stopped : {X Y : Type 0} → (X → ℕ) → Result Y (Stop X) → Option ℕ
stopped at (Ok x) = None
stopped at (Err stop) = Some (stop_place at stop)

abbrev pub mistyped : {Y : Type 0} → Result Y TypeFault → Option ℕ
mistyped (Ok x) = None
mistyped (Err fault) = typing_place fault

-- by the grammar, or else by the rules of typing
abbrev pub untyped : Result raw.Program (Stop Passed) → Option ℕ
untyped (Ok tree) = mistyped (typing tree)
untyped (Err stop) = Some (stop_place passed_place stop)

-- where a program is refused
unfoldable pub program_refused : List ℕ → Option ℕ
program_refused text = untyped (parsed text)

-- where a proof over a program is refused
unfoldable pub proof_refused : TranslatedProgram → List ℕ → Option ℕ
proof_refused x text = stopped breach_place (script_spelled x.names (plain_system x.system) text)

-- where a schedule for a program is refused
unfoldable pub schedule_refused : TranslatedProgram → List ℕ → Option ℕ
schedule_refused x text = stopped breach_place (schedule_spelled x.names (plain_children x.program.processes) text)

-- a text that is too long is refused behind as many bytes as may be
abbrev pub within_limit : List ℕ → Option ℕ → Option ℕ
within_limit text refused = if nat_lt 4194304 (length text) then Some 4194304 else refused

-- where a fault of the code says that a text is refused; want of memory says nothing
abbrev pub parse_place : ParseFault → Option ℕ
parse_place fault = option_map (stop_place passed_place) (parsing.see fault)

abbrev pub script_place : ScriptFault → Option ℕ
script_place fault = option_map (stop_place breach_place) (scripts.see fault)

abbrev pub schedule_place : ScheduleFault → Option ℕ
schedule_place fault = option_map (stop_place breach_place) (schedules.see fault)
