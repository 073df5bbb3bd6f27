-- A script over a program, with which a trace goes on, and what its schedule is.
use Rattle.std.proofs.Common.{◌≡◌, ℕ, Bool, true, List, map, sym, ap, ◌∙◌}
use Rattle.std.specs.Prelude.{if◌then◌else◌, Option, Some, None, Ok, Err}
use Rattle.st_reading.specs.Reading.{Stop, IsStop}
use Rattle.st_reading.specs.Breaches.{Breach}
use Rattle.temporal_goals.specs.Texts.{PlainStep}
use Rattle.spl_semantics.specs.Data.{store_of, StoreFits}
use Rattle.spl_semantics.specs.Stores.{holds}
use Rattle.spl_typer.specs.Programs.{Typed}
use Rattle.spl_typer.proofs.Tabled.{kinds_stand}
use Rattle.st_program.specs.declared.residuals.Datum.{Datum}
use Rattle.schedule_reader.specs.Values.{has_type}
use Rattle.schedule_reader.specs.Schedules.{PlainSchedule, schedule_spelled}
use Rattle.trace_player.specs.Playing as playing
use Rattle.trace_player.specs.Playing.{outcome, PlayAnswers}
use Rattle.trace_player.specs.declared.faults.PlayFault.TheVariants as play
use Rattle.step_plan.specs.Outcome.{Outcome}
use Rattle.step_plan.specs.Plan.{Plan, goes_on}
use Rattle.step_run.specs.Source.{IsSpelled}
use Rattle.step_run.specs.Scheduled.{start_of}
use Rattle.step_run.specs.Traced.{Scripted, schedule_refused, IsEndOf, no_start, too_large_at, not_enabled, play_ended, schedule_played, schedule_ended, traced}
use Rattle.step_run.proofs.Typed.{from_text}
use Rattle.trace_player.proofs.Fitting.{types_are}

-- with what a script is gone on
abbrev pub next_of : Typed → List PlainStep → Plan Scripted
next_of p steps = goes_on (record { program = p; steps = steps })

-- names are those of the program's variables
pub names_are : (p : Typed) → IsSpelled p → map (λ v. v.1) p.names.variables ≡ map (λ v. v.truth) p.variables
names_are p spelled = let f = from_text spelled.0 p spelled.1 in kinds_stand f.program p f.types

-- the store of a schedule fits the program
pub store_fits : (p : Typed) (ds : List Datum) → IsSpelled p → map (has_type true) ds ≡ map (λ v. v.1) p.names.variables → StoreFits p.variables ds
store_fits p ds spelled is = types_are ds ∙ is ∙ names_are p spelled

module _ (x : Scripted) (s : PlainSchedule) where
  -- how a schedule ends that is played
  started : (r : playing.Outcome) → holds x.program.initial (store_of s.store) ≡ true → outcome x.program.processes s.moves (start_of x.program s) 0 ≡ r → schedule_played x s ≡ play_ended x s r
  unfolding schedule_played
  started r meets is =
      ap (λ (b : Bool). if b then play_ended x s (outcome x.program.processes s.moves (start_of x.program s) 0) else no_start) meets ∙ ap (play_ended x s) is

  pub made_ends : (later : List _) → holds x.program.initial (store_of s.store) ≡ true → outcome x.program.processes s.moves (start_of x.program s) 0 ≡ playing.made later → schedule_played x s ≡ play_ended x s (playing.made later)
  made_ends later meets is = started (playing.made later) meets is

  pub never_starts : PlayAnswers x.program.processes x.program.initial (store_of s.store) s.moves (Err play.NoStart) → no_start ≡ schedule_played x s
  unfolding schedule_played
  never_starts h = sym (ap (λ (b : Bool). if b then play_ended x s (outcome x.program.processes s.moves (start_of x.program s) 0) else no_start) h)

  pub grows_too_large : (k : ℕ) → PlayAnswers x.program.processes x.program.initial (store_of s.store) s.moves (Err (play.ValueLimit k)) → too_large_at k ≡ schedule_played x s
  grows_too_large k h = sym (started (playing.too_large k) h.0 h.1)

  pub stops : (k : ℕ) → PlayAnswers x.program.processes x.program.initial (store_of s.store) s.moves (Err (play.Illegal k)) → not_enabled k ≡ schedule_played x s
  stops k h = sym (started (playing.illegal k) h.0 h.1)

module _ (x : Scripted) (text : List ℕ) where
  -- a schedule that is read is played
  pub read_so : (s : PlainSchedule) → schedule_spelled x.program.names x.program.processes text ≡ Ok s → traced x text ≡ schedule_played x s
  unfolding traced
  read_so s is = ap (schedule_ended x) is

  refused_as : (f : Stop Breach) → schedule_spelled x.program.names x.program.processes text ≡ Err f → schedule_refused f ≡ traced x text
  unfolding traced
  refused_as f is = sym (ap (schedule_ended x) is)

  -- one that isn't is refused at its first fault
  pub refused_so : (seen : Option (Stop Breach)) (o : Outcome) → IsEndOf seen o → IsStop seen (schedule_spelled x.program.names x.program.processes text) → o ≡ traced x text
  refused_so None o end is = absurd end
  refused_so (Some f) o end is = end ∙ refused_as f is
