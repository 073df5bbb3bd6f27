-- Which schedules can be played and which texts spell them, and how long a run is that was played.
use Rattle.std.specs.Prelude.{◌≡◌, ◌≤◌, ◌<◌, ◌^◌, ℕ, List, All, length, Ok}
use Rattle.st_program.specs.Plain.{plain_children}
use Rattle.spl_semantics.specs.Data.{StoreFits}
use Rattle.schedule_reader.specs.Values.{IsWritten}
use Rattle.schedule_reader.specs.Schedules.{plain_schedule, schedule_spelled}
use Rattle.schedule_reader.specs.declared.schedule.Schedule.{Schedule}
use Rattle.trace_player.specs.declared.runs.Played.{Played}
use Rattle.posed_conditions.specs.declared.translated.TranslatedProgram.{TranslatedProgram}

-- the store is one of the program, its numbers are small, and the moves are few
pub record IsPlayable (x : TranslatedProgram) (s : Schedule) : Type 0 where
  pub store : StoreFits x.program.variables s.store.items
  pub written : All IsWritten s.store.items
  pub few : length s.moves.items ≤ 1000

-- the text spells the schedule over the program
abbrev pub Spells : TranslatedProgram → List ℕ → Schedule → Type 0
Spells x text s = schedule_spelled x.names (plain_children x.program.processes) text ≡ Ok (plain_schedule s)

-- the enabled names are noted of each state, and there are fewer than 2^32
pub record IsShort (p : Played) : Type 0 where
  pub long : length p.states.items ≡ length p.enabled.items
  pub few : length p.enabled.items < 2 ^ 32
