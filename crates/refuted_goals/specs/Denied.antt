-- What is answered where a text is refused: no, and it is no such text.
use Rattle.std.specs.Prelude.{◌≡◌, ℕ, Bool, false, List, Ok}
use Rattle.st_reading.specs.Reading.{IsStop}
use Rattle.temporal_goals.specs.Texts.{PlainStep}
use Rattle.spl_typer.specs.Programs.{Typed}
use Rattle.proof_script.specs.declared.fault.ScriptFault.{ScriptFault}
use Rattle.proof_script.specs.Faults as scripts
use Rattle.schedule_reader.specs.declared.fault.ScheduleFault.{ScheduleFault}
use Rattle.schedule_reader.specs.Faults as schedules
use Rattle.schedule_reader.specs.Schedules.{PlainSchedule}
use Rattle.posed_conditions.specs.declared.faults.PosingFault.{PosingFault}
use Rattle.posed_conditions.specs.Refused.{RefusesProgram}
use Rattle.refuted_goals.specs.Refuted.{SpellsProgram}

-- the answer is no, and no schedule is read where this is the fault
abbrev pub DeniesSchedule : ScheduleFault → Bool → Type 0
DeniesSchedule fault b = (b ≡ false) × ((s : PlainSchedule) → IsStop (schedules.see fault) (Ok s) → ⊥)

abbrev pub DeniesScript : ScriptFault → Bool → Type 0
DeniesScript fault b = (b ≡ false) × ((steps : List PlainStep) → IsStop (scripts.see fault) (Ok steps) → ⊥)

abbrev pub DeniesProgram : PosingFault → Bool → Type 0
DeniesProgram fault b = (b ≡ false) × ((text : List ℕ) (p : Typed) → RefusesProgram text fault → SpellsProgram text p → ⊥)
