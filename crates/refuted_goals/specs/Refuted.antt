-- A schedule that refutes the last goal of a proof: it gives a run of the program on which this goal fails.
use Rattle.std.specs.Prelude.{◌≡◌, ◌≤◌, ◌-◌, ℕ, List, length, slice_get, Option, Some, Ok}
use Rattle.std.specs.Option.{option_map}
use Rattle.st_form.specs.Formula.{Situation}
use Rattle.st_form.specs.declared.conditions.TransName.{TransName}
use Rattle.observations.specs.Observation.{Observation}
use Rattle.transition_system.specs.Systems.{System}
use Rattle.spl_semantics.specs.Data.{store_of}
use Rattle.spl_semantics.specs.Runs.{State, start, IsFirst, IsSeenOf}
use Rattle.spl_translation.specs.Translation.{translation}
use Rattle.spl_parser.specs.ProgramTree as raw
use Rattle.spl_parser.specs.Parsing.{parsed}
use Rattle.spl_typer.specs.Programs.{Typed, typing}
use Rattle.temporal_goals.specs.Texts.{PlainGoal, PlainStep}
use Rattle.obligation_laws.specs.Obligations.{HoldsOnRuns}
use Rattle.proof_script.specs.Script.{script_spelled}
use Rattle.schedule_reader.specs.Schedules.{PlainSchedule, schedule_spelled}
use Rattle.trace_laws.specs.Schedules.{IsRunOfNames}
use Rattle.played_goals.specs.Failures.{FailsOn}

-- the program as a system
abbrev pub system_of : Typed → System
system_of p = translation p.variables p.initial p.processes p.locations

-- all processes are at their beginning, with the store of the schedule
abbrev pub start_of : Typed → PlainSchedule → State
start_of p s = start p.processes (store_of s.store)

-- the goal of the last step; there is none where there is no step
abbrev pub last_goal : List PlainStep → Option PlainGoal
last_goal steps = option_map (λ s. s.goal) (slice_get steps (length steps - 1))

-- this is what is seen of a run of the program, from a first state on by steps with the names of the schedule
pub record IsRunBy (p : Typed) (s : PlainSchedule) (o : Observation Situation) : Type 0 where
  pub later : List (TransName × State)
  pub first : IsFirst p.processes p.initial (start_of p s)
  pub run : IsRunOfNames p.processes (start_of p s) s.moves later
  pub seen : IsSeenOf p.processes (start_of p s) later o

-- the last goal fails on it, at some position
pub record LastFails (steps : List PlainStep) (o : Observation Situation) : Type 0 where
  pub goal : PlainGoal
  pub is_last : last_goal steps ≡ Some goal
  pub fails : FailsOn goal o

-- the schedule gives a run of the program on which the last goal fails
pub record FailsBy (p : Typed) (steps : List PlainStep) (s : PlainSchedule) : Type 0 where
  pub seen : Observation Situation
  pub run : IsRunBy p s seen
  pub fails : LastFails steps seen

-- the text spells the program
pub record SpellsProgram (text : List ℕ) (p : Typed) : Type 0 where
  pub tree : raw.Program
  pub spells : parsed text ≡ Ok tree
  pub types : typing tree ≡ Ok p

-- the first text spells a program, the second a script over it, and the third a schedule that gives a run of the program on
-- which the script's last goal fails
pub record Refutes (program proof schedule : List ℕ) : Type 0 where
  pub short : (length proof ≤ 4194304) × (length schedule ≤ 4194304)
  pub typed : Typed
  pub is_program : SpellsProgram program typed
  pub steps : List PlainStep
  pub is_proof : script_spelled typed.names (system_of typed) proof ≡ Ok steps
  pub moves : PlainSchedule
  pub is_schedule : schedule_spelled typed.names typed.processes schedule ≡ Ok moves
  pub fails : FailsBy typed steps moves

-- so the last goal doesn't hold on every run of the program: no proof shows it
pub record IsRefuted (program proof : List ℕ) : Type 0 where
  pub typed : Typed
  pub is_program : SpellsProgram program typed
  pub steps : List PlainStep
  pub is_proof : script_spelled typed.names (system_of typed) proof ≡ Ok steps
  pub goal : PlainGoal
  pub is_last : last_goal steps ≡ Some goal
  pub refuted : ¬ (HoldsOnRuns typed.processes typed.initial goal)
