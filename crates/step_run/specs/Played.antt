-- What was played by a schedule.
use Rattle.std.specs.Prelude.{◌≡◌, suc, length, Ok}
use Rattle.spl_semantics.specs.Data.{store_of}
use Rattle.spl_typer.specs.Programs.{Typed}
use Rattle.schedule_reader.specs.Schedules.{PlainSchedule}
use Rattle.trace_player.specs.Playing.{PlayAnswers}
use Rattle.trace_player.specs.declared.runs.Played.{Played}

-- it is what the moves make, and has a state and a list of enabled names behind each move and before the first
pub record IsPlayedBy (p : Typed) (s : PlainSchedule) (played : Played) : Type 0 where
  pub answers : PlayAnswers p.processes p.initial (store_of s.store) s.moves (Ok played)
  pub states : length played.states.items ≡ suc (length s.moves)
  pub enabled : length played.enabled.items ≡ suc (length s.moves)
