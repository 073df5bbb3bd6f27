-- The run that a schedule gives.
use Rattle.std.specs.Prelude.{List}
use Rattle.st_form.specs.Formula.{Situation}
use Rattle.st_form.specs.declared.conditions.TransName.{TransName}
use Rattle.observations.specs.Observation.{Observation}
use Rattle.spl_semantics.specs.Data.{store_of}
use Rattle.spl_semantics.specs.Runs.{State, start, IsFirst}
use Rattle.spl_semantics.specs.Observed.{observed}
use Rattle.spl_typer.specs.Programs.{Typed}
use Rattle.schedule_reader.specs.Schedules.{PlainSchedule}
use Rattle.trace_laws.specs.Schedules.{IsRunOfNames}

-- all processes are at their beginning, with the store of the schedule
abbrev pub start_of : Typed → PlainSchedule → State
start_of p s = start p.processes (store_of s.store)

-- what is seen of the run
abbrev pub observed_of : Typed → PlainSchedule → List (TransName × State) → Observation Situation
observed_of p s later = observed p.processes (start_of p s) later

-- a run of the program from there on, by steps with the names of the schedule, in whose states nothing is too large
pub record IsRunOfSchedule (p : Typed) (s : PlainSchedule) (later : List (TransName × State)) : Type 0 where
  pub first : IsFirst p.processes p.initial (start_of p s)
  pub run : IsRunOfNames p.processes (start_of p s) s.moves later
