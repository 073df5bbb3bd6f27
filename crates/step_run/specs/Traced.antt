-- How a trace ends: the schedule is refused, it gives no run, or its run is reported.
use Rattle.std.specs.Prelude.{◌≡◌, ℕ, List, length, if◌then◌else◌, Option, Some, None, Result, Ok, Err}
use Rattle.st_form.specs.Formula.{Situation}
use Rattle.st_tokens.specs.declared.kind.TokenFault.{TokenFault}
use Rattle.st_reading.specs.Reading.{Stop}
use Rattle.st_reading.specs.Breaches.{Breach}
use Rattle.observations.specs.Observation.{Observation}
use Rattle.temporal_goals.specs.Texts.{PlainStep}
use Rattle.spl_semantics.specs.Stores.{holds}
use Rattle.spl_semantics.specs.Data.{store_of}
use Rattle.spl_typer.specs.Programs.{Typed}
use Rattle.schedule_reader.specs.Schedules.{PlainSchedule, schedule_spelled}
use Rattle.trace_player.specs.Playing as playing
use Rattle.trace_player.specs.Playing.{made, too_large, illegal, outcome}
use Rattle.judging_laws.specs.Counted.{round_counts}
use Rattle.step_report.specs.declared.refusals.FaultKind.{FaultKind}
use Rattle.step_report.specs.declared.refusals.FileRole.TheVariants.{Schedule}
use Rattle.step_report.specs.Traces.{illegal_start_text, illegal_move_text, value_limit_text, played_text}
use Rattle.step_plan.specs.declared.status.Status.TheVariants.{Proved, ScheduleRefused, Illegal, ValueLimit}
use Rattle.step_plan.specs.Outcome.{Outcome}
use Rattle.step_run.specs.Outcome.{text_fault, token_fault, text_refused}
use Rattle.step_run.specs.Scheduled.{start_of, observed_of}
use Rattle.step_run.specs.Judged.{all_judged}

-- a program and its script
pub record Scripted : Type 0 where
  pub program : Typed
  pub steps : List PlainStep

abbrev pub schedule_fault : FaultKind → ℕ → Outcome
schedule_fault = text_fault ScheduleRefused Schedule

abbrev pub token_refused : TokenFault → Outcome
token_refused = token_fault ScheduleRefused Schedule

-- the first fault of a schedule
abbrev pub schedule_refused : Stop Breach → Outcome
schedule_refused = text_refused ScheduleRefused Schedule

-- the end that a fault of the code brings; want of memory brings none
abbrev pub IsEndOf : Option (Stop Breach) → Outcome → Type 0
IsEndOf None o = ⊥
IsEndOf (Some f) o = o ≡ schedule_refused f

-- the report of a run
abbrev pub report_of : Scripted → ℕ → Observation Situation → List ℕ
report_of x moves o = played_text x.program.names x.steps moves (round_counts o) (all_judged o x.steps)

abbrev pub no_start : Outcome
no_start = record { status = Illegal; text = illegal_start_text }

abbrev pub too_large_at : ℕ → Outcome
too_large_at k = record { status = ValueLimit; text = value_limit_text k }

abbrev pub not_enabled : ℕ → Outcome
not_enabled k = record { status = Illegal; text = illegal_move_text k }

abbrev pub play_ended : Scripted → PlainSchedule → playing.Outcome → Outcome
play_ended x s (made later) = record { status = Proved; text = report_of x (length s.moves) (observed_of x.program s later) }
play_ended x s (too_large k) = too_large_at k
play_ended x s (illegal k) = not_enabled k

-- a schedule, played
unfoldable pub schedule_played : Scripted → PlainSchedule → Outcome
schedule_played x s = if holds x.program.initial (store_of s.store) then play_ended x s (outcome x.program.processes s.moves (start_of x.program s) 0) else no_start

abbrev pub schedule_ended : Scripted → Result PlainSchedule (Stop Breach) → Outcome
schedule_ended x (Ok s) = schedule_played x s
schedule_ended x (Err fault) = schedule_refused fault

-- the outcome over the text of the schedule
unfoldable pub traced : Scripted → List ℕ → Outcome
traced x text = schedule_ended x (schedule_spelled x.program.names x.program.processes text)
