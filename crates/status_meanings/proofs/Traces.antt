-- How a trace ends over the text of a schedule.
use Rattle.std.proofs.Common.{◌≡◌, ℕ, ◌+◌, Bool, true, false, List, refl, sym, ap, ◌∙◌, subst, arith}
use Rattle.std.specs.Prelude.{Result, Ok, Err, if◌then◌else◌, ◌↔◌}
use Rattle.st_form.specs.Formula.{Formula}
use Rattle.st_form.specs.declared.conditions.TransName.{TransName}
use Rattle.st_program.specs.Programs.{WellFormed}
use Rattle.st_program.specs.Tree.{Processes}
use Rattle.st_reading.specs.Reading.{Stop}
use Rattle.st_reading.specs.Breaches.{Breach}
use Rattle.spl_semantics.specs.Data.{store_of}
use Rattle.spl_semantics.specs.Runs.{State, IsFirst, Reached, first}
use Rattle.spl_semantics.specs.Stores.{holds}
use Rattle.schedule_reader.specs.Schedules.{PlainSchedule, schedule_spelled}
use Rattle.schedule_grammar.specs.Theorems.{SpellsSchedule, SpelledSchedulesAreRead, ReadSchedulesAreSpelled, SchedulesFirstFault}
use Rattle.trace_player.specs.Playing as playing
use Rattle.trace_player.specs.Playing.{made, too_large, illegal, outcome}
use Rattle.trace_laws.specs.Schedules.{IsRunOfNames}
use Rattle.trace_laws.specs.Endings.{IsWideBehind, IsStuckBehind}
use Rattle.step_plan.specs.Outcome.{Outcome}
use Rattle.step_run.specs.Scheduled.{start_of}
use Rattle.step_run.specs.Traced.{Scripted, no_start, play_ended, schedule_played, schedule_ended, traced}
use Rattle.status_meanings.specs.Ends.{TraceGoes, off_schedule, starts_nowhere, grows_wide, gets_stuck, is_run}

pub record TraceLaws : Type 0 where
  pub read : SpelledSchedulesAreRead
  pub spelled : ReadSchedulesAreSpelled
  pub first_fault : SchedulesFirstFault
  pub runs : (p : Processes) (initial : Formula) → WellFormed p → (s : State) (names : List TransName) (later : List (TransName × State)) (k : ℕ) → Reached p initial s → (outcome p names s k ≡ made later) ↔ IsRunOfNames p s names later
  pub wide : (p : Processes) (initial : Formula) → WellFormed p → (s : State) (names : List TransName) (k i : ℕ) → Reached p initial s → (outcome p names s k ≡ too_large (k + i)) ↔ IsWideBehind p s names i
  pub stuck : (p : Processes) (initial : Formula) → WellFormed p → (s : State) (names : List TransName) (k i : ℕ) → Reached p initial s → (outcome p names s k ≡ illegal (k + i)) ↔ IsStuckBehind p s names i

zero_plus : (i : ℕ) → i ≡ 0 + i
zero_plus i = omega arith

module _ (law : TraceLaws) (x : Scripted) (well : WellFormed x.program.processes) (st : List ℕ) where
  abbrev ps : Processes
  ps = x.program.processes

  abbrev Lawful : PlainSchedule → Type 0
  Lawful s = SpellsSchedule x.program.names ps st s

  abbrev from : PlainSchedule → State
  from s = start_of x.program s

  abbrev played : PlainSchedule → playing.Outcome
  played s = outcome ps s.moves (from s) 0

  begins : (s : PlainSchedule) → holds x.program.initial (store_of s.store) ≡ true → IsFirst ps x.program.initial (from s)
  begins s meets = record { begins = refl; meets = meets }

  traced_is : (r : Result PlainSchedule (Stop Breach)) → schedule_spelled x.program.names ps st ≡ r → traced x st ≡ schedule_ended x r
  unfolding traced
  traced_is r is = ap (schedule_ended x) is

  played_is : (s : PlainSchedule) (b : Bool) → holds x.program.initial (store_of s.store) ≡ b → schedule_played x s ≡ (if b then play_ended x s (played s) else no_start)
  unfolding schedule_played
  played_is s b is = ap (λ (c : Bool). if c then play_ended x s (played s) else no_start) is

  -- what is played
  by_outcome : (s : PlainSchedule) → Lawful s → holds x.program.initial (store_of s.store) ≡ true → (r : playing.Outcome) → played s ≡ r → TraceGoes x st (play_ended x s r)
  by_outcome s lawful meets (made later) is =
      is_run s later lawful (record { first = begins s meets; run = (law.runs ps x.program.initial well (from s) s.moves later 0 (first (begins s meets))).0 is })
  by_outcome s lawful meets (too_large k) is =
      grows_wide s k lawful meets ((law.wide ps x.program.initial well (from s) s.moves 0 k (first (begins s meets))).0 (is ∙ ap too_large (zero_plus k)))
  by_outcome s lawful meets (illegal k) is =
      gets_stuck s k lawful meets ((law.stuck ps x.program.initial well (from s) s.moves 0 k (first (begins s meets))).0 (is ∙ ap illegal (zero_plus k)))

  by_start : (s : PlainSchedule) → Lawful s → (b : Bool) → holds x.program.initial (store_of s.store) ≡ b → TraceGoes x st (if b then play_ended x s (played s) else no_start)
  by_start s lawful true meets = by_outcome s lawful meets (played s) refl
  by_start s lawful false meets = starts_nowhere s lawful meets

  by_schedule : (r : Result PlainSchedule (Stop Breach)) → schedule_spelled x.program.names ps st ≡ r → TraceGoes x st (schedule_ended x r)
  by_schedule (Ok s) is =
      let b = holds x.program.initial (store_of s.store) in
      subst (TraceGoes x st) (sym (played_is s b refl)) (by_start s (law.spelled x.program.names ps st s is) b refl)
  by_schedule (Err f) is = off_schedule f ((law.first_fault x.program.names ps st f).0 is)

  pub trace_to : (o : Outcome) → traced x st ≡ o → TraceGoes x st o
  trace_to o e = let r = schedule_spelled x.program.names ps st in subst (TraceGoes x st) (sym (traced_is r refl) ∙ e) (by_schedule r refl)

  -- the other way round
  reads : (s : PlainSchedule) → Lawful s → traced x st ≡ schedule_played x s
  reads s lawful = traced_is (Ok s) (law.read x.program.names ps st s lawful)

  plays : (s : PlainSchedule) → Lawful s → holds x.program.initial (store_of s.store) ≡ true → (r : playing.Outcome) → played s ≡ r → traced x st ≡ play_ended x s r
  plays s lawful meets r is = reads s lawful ∙ played_is s true meets ∙ ap (play_ended x s) is

  pub trace_from : (o : Outcome) → TraceGoes x st o → traced x st ≡ o
  trace_from o (off_schedule f h) = traced_is (Err f) ((law.first_fault x.program.names ps st f).1 h)
  trace_from o (starts_nowhere s lawful not) = reads s lawful ∙ played_is s false not
  trace_from o (grows_wide s k lawful meets h) =
      plays s lawful meets (too_large k) ((law.wide ps x.program.initial well (from s) s.moves 0 k (first (begins s meets))).1 h ∙ ap too_large (sym (zero_plus k)))
  trace_from o (gets_stuck s k lawful meets h) =
      plays s lawful meets (illegal k) ((law.stuck ps x.program.initial well (from s) s.moves 0 k (first (begins s meets))).1 h ∙ ap illegal (sym (zero_plus k)))
  trace_from o (is_run s later lawful run) =
      plays s lawful run.first.meets (made later) ((law.runs ps x.program.initial well (from s) s.moves later 0 (first run.first)).1 run.run)
