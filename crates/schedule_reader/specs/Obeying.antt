-- What a schedule that was read obeys.
use Rattle.std.specs.Prelude.{◌≡◌, ℕ, ◌≤◌, true, List, map, length, ⊤, Some, Ok}
use Rattle.std.specs.List.{All}
use Rattle.st_form.specs.declared.conditions.TransName.{TransName}
use Rattle.st_form.specs.declared.conditions.TransName.TheVariants.{Idle, Step}
use Rattle.st_program.specs.Names.{Names}
use Rattle.st_program.specs.Tree.{Processes}
use Rattle.schedule_reader.specs.Values.{has_type, IsWritten}
use Rattle.schedule_reader.specs.Moves.{step_of}
use Rattle.schedule_reader.specs.Schedules.{PlainSchedule, schedule_spelled}

-- the name is that of a transition of the program
abbrev pub IsName : Processes → TransName → Type 0
IsName p Idle = ⊤
IsName p (Step o part) = step_of p o part ≡ Some (Step o part)

-- a value for each variable, of its type and as small as texts write them; at most 1,000 moves, each a transition's
pub record Obeys (names : Names) (p : Processes) (s : PlainSchedule) : Type 0 where
  pub types : map (has_type true) s.store ≡ map (λ v. v.1) names.variables
  pub written : All IsWritten s.store
  pub few : length s.moves ≤ 1000
  pub named : All (IsName p) s.moves

abbrev pub SchedulesObey : Type 0
SchedulesObey = (names : Names) (p : Processes) (text : List ℕ) (s : PlainSchedule) → schedule_spelled names p text ≡ Ok s → Obeys names p s
