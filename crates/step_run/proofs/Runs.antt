-- A schedule gives a run exactly where its trace ends with status 0.
use Rattle.std.proofs.Common.{◌≡◌, ℕ, ◌≤◌, Bool, true, false, List, length, refl, sym, ap, ◌∙◌, subst}
use Rattle.std.specs.Prelude.{Some, Result, Ok, Err, if◌then◌else◌}
use Rattle.st_form.specs.declared.conditions.TransName.{TransName}
use Rattle.st_reading.specs.Reading.{Stop}
use Rattle.st_reading.specs.Breaches.{Breach}
use Rattle.temporal_goals.specs.Texts.{PlainStep}
use Rattle.spl_semantics.specs.Stores.{holds}
use Rattle.spl_semantics.specs.Data.{store_of}
use Rattle.spl_semantics.specs.Runs.{State, first}
use Rattle.spl_parser.specs.Theorems.{SpelledIsRead}
use Rattle.spl_typer.specs.Programs.{Typed}
use Rattle.schedule_reader.specs.Schedules.{PlainSchedule, schedule_spelled}
use Rattle.trace_player.specs.Playing as playing
use Rattle.trace_player.specs.Playing.{made, too_large, illegal, outcome}
use Rattle.trace_laws.proofs.Played.{made_follows, run_made}
use Rattle.step_report.specs.declared.refusals.FileRole.TheVariants.{Program, Proof, Schedule}
use Rattle.step_plan.specs.declared.status.Status.TheVariants.{Proved, ScheduleRefused}
use Rattle.step_plan.specs.Outcome.{Outcome}
use Rattle.step_plan.specs.Plan.{Told, Plan, ends, goes_on, then_plan, EndsIn}
use Rattle.step_run.specs.Source.{IsSpelled}
use Rattle.step_run.specs.Conditions.{steps_spelled}
use Rattle.step_run.specs.Outcome.{script_refused}
use Rattle.step_run.specs.Scheduled.{start_of, observed_of, IsRunOfSchedule}
use Rattle.step_run.specs.Traced.{Scripted, schedule_refused, report_of, no_start, play_ended, schedule_played, schedule_ended, traced}
use Rattle.step_run.specs.Plans.{steps_or_end, source_of_text, script_of_text, scripted_of_text, script_plan, trace_scripted, plan_for}
use Rattle.step_run.specs.WellFormed.{Traces, AreShort}
use Rattle.step_words.specs.Request.{traces}
use Rattle.step_run.proofs.Posing.{script_read}
use Rattle.step_run.proofs.Stages.{goes_then}
use Rattle.step_run.proofs.Typed.{well_typed}
use Rattle.step_run.proofs.Meant.{program_spelled}
use Rattle.step_run.proofs.Headline.{IsProved, text_not, script_not, ends_as, file_proved, file_goes, source_proved, source_goes, Laws, script_of, scripted}

-- a program and its script
abbrev pub over : Typed → List PlainStep → Scripted
over p steps = record { program = p; steps = steps }

-- the report of the run that a schedule gives
abbrev pub told_of : Typed → List PlainStep → PlainSchedule → List (TransName × State) → Outcome
told_of p steps s later = record { status = Proved; text = report_of (over p steps) (length s.moves) (observed_of p s later) }

refused_not : (f : Stop Breach) → IsProved (schedule_refused f) → ⊥
refused_not = text_not ScheduleRefused Schedule (λ e. cc)

-- what status 0 shows of a schedule
pub record Ran (p : Typed) (steps : List PlainStep) (text : List ℕ) (o : Outcome) : Type 0 where
  pub schedule_is : PlainSchedule
  pub later : List (TransName × State)
  pub spelled : schedule_spelled p.names p.processes text ≡ Ok schedule_is
  pub run : IsRunOfSchedule p schedule_is later
  pub same : told_of p steps schedule_is later ≡ o

module _ (p : Typed) (steps : List PlainStep) (well : IsSpelled p) where
  record Made (s : PlainSchedule) (o : Outcome) : Type 0 where
    later : List (TransName × State)
    run : IsRunOfSchedule p s later
    same : told_of p steps s later ≡ o

  by_outcome : (s : PlainSchedule) (o : Outcome) (r : playing.Outcome) → holds p.initial (store_of s.store) ≡ true → outcome p.processes s.moves (start_of p s) 0 ≡ r → play_ended (over p steps) s r ≡ o → IsProved o → Made s o
  by_outcome s o (made later) meets is e proved = record {
    later = later;
    run = record {
      first = record { begins = refl; meets = meets };
      run = made_follows p.processes (well_typed p well).well.numbered s.moves (start_of p s) 0 later is;
    };
    same = e;
  }
  by_outcome s o (too_large k) meets is e proved = absurd (let no : IsProved (play_ended (over p steps) s (too_large k)) = subst IsProved (sym e) proved in cc)
  by_outcome s o (illegal k) meets is e proved = absurd (let no : IsProved (play_ended (over p steps) s (illegal k)) = subst IsProved (sym e) proved in cc)

  by_start : (s : PlainSchedule) (o : Outcome) (b : Bool) → holds p.initial (store_of s.store) ≡ b
      → (if b then play_ended (over p steps) s (outcome p.processes s.moves (start_of p s) 0) else no_start) ≡ o → IsProved o → Made s o
  by_start s o true meets e proved = by_outcome s o (outcome p.processes s.moves (start_of p s) 0) meets refl e proved
  by_start s o false meets e proved = absurd (let no : IsProved no_start = subst IsProved (sym e) proved in cc)

  by_played : (s : PlainSchedule) (o : Outcome) → schedule_played (over p steps) s ≡ o → IsProved o → Made s o
  unfolding schedule_played
  by_played s o e proved = by_start s o (holds p.initial (store_of s.store)) refl e proved

  by_schedule : (text : List ℕ) (o : Outcome) (r : Result PlainSchedule (Stop Breach)) → schedule_spelled p.names p.processes text ≡ r → schedule_ended (over p steps) r ≡ o → IsProved o → Ran p steps text o
  by_schedule text o (Ok s) is e proved =
      let m = by_played s o e proved in
      record { schedule_is = s; later = m.later; spelled = is; run = m.run; same = m.same }
  by_schedule text o (Err f) is e proved = absurd (refused_not f (subst IsProved (sym e) proved))

  pub ran : (text : List ℕ) (o : Outcome) → traced (over p steps) text ≡ o → IsProved o → Ran p steps text o
  unfolding traced
  ran text o e proved = by_schedule text o (schedule_spelled p.names p.processes text) refl e proved

  -- the other way round
  played_so : (s : PlainSchedule) (later : List (TransName × State)) → IsRunOfSchedule p s later → schedule_played (over p steps) s ≡ told_of p steps s later
  unfolding schedule_played
  played_so s later r =
      let go : outcome p.processes s.moves (start_of p s) 0 ≡ made later = run_made p.processes p.initial (well_typed p well).well s.moves (start_of p s) 0 later (first r.first) r.run in
      ap (λ (b : Bool). if b then play_ended (over p steps) s (outcome p.processes s.moves (start_of p s) 0) else no_start) r.first.meets
      ∙ ap (play_ended (over p steps) s) go

  pub traced_so : (text : List ℕ) (s : PlainSchedule) (later : List (TransName × State)) → schedule_spelled p.names p.processes text ≡ Ok s → IsRunOfSchedule p s later → traced (over p steps) text ≡ told_of p steps s later
  unfolding traced
  traced_so text s later is r = ap (schedule_ended (over p steps)) is ∙ played_so s later r

module _ (law : Laws) (spelled : SpelledIsRead) (told : Told) (o : Outcome) where
  -- the text of the proof spells a script
  script_proved : (p : Typed) (text : List ℕ) (next : Scripted → Plan ⊥) → EndsIn told (then_plan (scripted_of_text p text) next) o → IsProved o
      → (steps : List PlainStep) × (steps_spelled p text ≡ Ok steps) × EndsIn told (next (over p steps)) o
  script_proved p text next e proved =
      by (steps_spelled p text) refl (subst (λ (q : Plan (List PlainStep)). EndsIn told (then_plan (then_plan q (λ steps. goes_on (over p steps))) next) o) (script_read p text (steps_spelled p text) refl) e) where
        by : (r : Result (List PlainStep) (Stop Breach)) → steps_spelled p text ≡ r → EndsIn told (then_plan (then_plan (steps_or_end r) (λ steps. goes_on (over p steps))) next) o
            → (steps : List PlainStep) × (steps_spelled p text ≡ Ok steps) × EndsIn told (next (over p steps)) o
        by (Ok steps) is g = (steps, is, g)
        by (Err fault) is g = absurd (ends_as told o (script_refused fault) (script_not fault) g proved)

  -- the end of a trace with status 0
  pub trace_shows : (a b c pt qt st : List ℕ) → told a ≡ Some pt → told b ≡ Some qt → told c ≡ Some st → EndsIn told (plan_for (traces a b c)) o → IsProved o
      → AreShort pt qt × (length st ≤ 4194304)
      × ((p : Typed) × (steps : List PlainStep) × (s : PlainSchedule) × (later : List (TransName × State)) × Traces pt qt st p steps s later × (o ≡ told_of p steps s later))
  trace_shows a b c pt qt st ia ib ic e proved =
      let one = file_proved told o Program a pt (λ text. then_plan (then_plan (source_of_text text) (script_plan b)) (trace_scripted c)) ia e proved in
      let source = source_proved told o pt (script_plan b) (trace_scripted c) one.1 proved in
      let p = source.0 in
      let two = file_proved told o Proof b qt (λ text. then_plan (scripted_of_text p text) (trace_scripted c)) ib source.2 proved in
      let script = script_proved p qt (trace_scripted c) two.1 proved in
      let steps = script.0 in
      let three = file_proved told o {A = ⊥} Schedule c st (λ text. ends (traced (over p steps) text)) ic script.2 proved in
      let r = ran p steps (pt, source.1) st o three.1 proved in (
        (one.0, two.0),
        three.0,
        (p, steps, r.schedule_is, r.later, record { scripted = scripted law pt qt p steps source.1 script.1; schedule = law.schedules_spelled p.names p.processes st r.schedule_is r.spelled; run = r.run }, sym r.same),
      )

  pub trace_ends : (a b c pt qt st : List ℕ) (p : Typed) (steps : List PlainStep) (s : PlainSchedule) (later : List (TransName × State)) → told a ≡ Some pt → told b ≡ Some qt → told c ≡ Some st
      → AreShort pt qt → length st ≤ 4194304 → Traces pt qt st p steps s later → EndsIn told (plan_for (traces a b c)) o → IsProved o
  trace_ends a b c pt qt st p steps s later ia ib ic short third h e =
      let program = h.scripted.program in
      let is = program_spelled spelled law.meant pt p program in
      let one = file_goes told o Program a pt (λ text. then_plan (then_plan (source_of_text text) (script_plan b)) (trace_scripted c)) ia short.0 e in
      let two = subst (λ (q : Plan Typed). EndsIn told (then_plan (then_plan q (script_plan b)) (trace_scripted c)) o) (source_goes spelled law.meant pt p program) one in
      let three = file_goes told o Proof b qt (λ text. then_plan (scripted_of_text p text) (trace_scripted c)) ib short.1 two in
      let goes : scripted_of_text p qt ≡ goes_on (over p steps) = goes_then (λ x. goes_on (over p x)) (script_of_text p qt) steps (goes_on (over p steps)) (script_read p qt (Ok steps) (script_of law qt p steps h.scripted.script)) refl in
      let four = subst (λ (q : Plan Scripted). EndsIn told (then_plan q (trace_scripted c)) o) goes three in
      let last : traced (over p steps) st ≡ o = file_goes told o {A = ⊥} Schedule c st (λ text. ends (traced (over p steps) text)) ic third four in
      subst IsProved (sym (traced_so p steps (pt, is) st s later (law.schedules_read p.names p.processes st s h.schedule) h.run) ∙ last) refl
