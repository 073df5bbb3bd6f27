-- What a report of moves is of: a program and a schedule, as two texts spell them, and the state to which the schedule leads.
use Rattle.std.specs.Prelude.{◌≡◌, ℕ, List, length}
use Rattle.st_form.specs.Plain.{plain}
use Rattle.st_program.specs.Plain.{plain_children}
use Rattle.spl_semantics.specs.Data.{store_of}
use Rattle.schedule_reader.specs.declared.schedule.Schedule.{Schedule}
use Rattle.posed_conditions.specs.declared.translated.TranslatedProgram.{TranslatedProgram}
use Rattle.posed_conditions.specs.Translated.{IsOfText}
use Rattle.run_reports.specs.Playable.{Spells}
use Rattle.proof_reports.specs.declared.moves.MovesReport.{MovesReport}
use Rattle.possible_moves.specs.declared.reaching.Reached.{Reached}
use Rattle.possible_moves.specs.Moves.{IsReachedBy}

-- the schedule leads the program to this state
abbrev pub LeadsTo : TranslatedProgram → Schedule → Reached → Type 0
LeadsTo x s r = IsReachedBy (plain_children x.program.processes) (plain x.program.initial) (store_of s.store.items) s.moves.items r

-- a report has the position of the state, and tells each of its moves
pub record IsTold (s : Schedule) (reached : Reached) (r : MovesReport) : Type 0 where
  pub position : r.position ≡ length s.moves.items
  pub all : length r.moves.items ≡ length reached.moves.items

-- a report is of the program that the first text spells, and of the state to which the schedule leads that the second one spells
pub record IsReportOf (program schedule : List ℕ) (r : MovesReport) : Type 0 where
  pub source : TranslatedProgram
  pub moves : Schedule
  pub reached : Reached
  pub is_source : IsOfText program source
  pub is_schedule : Spells source schedule moves
  pub leads : LeadsTo source moves reached
  pub told : IsTold moves reached r
