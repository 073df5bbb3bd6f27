-- The report of a run that was played.
use Rattle.std.proofs.Common.{◌≡◌, ℕ, suc, ◌^◌, ◌<◌, ◌≤◌, List, length, map, sym, ap, ◌∙◌, arith}
use Rattle.std.proofs.lemmas.List.{length-map}
use Rattle.st_form.specs.declared.conditions.TransName.{TransName}
use Rattle.spl_semantics.specs.Plain.{plain_state}
use Rattle.st_program.specs.Tree.{Processes}
use Rattle.observations.specs.Observation.{last}
use Rattle.spl_semantics.specs.Runs.{State, place_of}
use Rattle.spl_semantics.specs.Observed.{seen, observed}
use Rattle.run_judging.specs.Greatest.{AreGreatest}
use Rattle.run_judging.specs.declared.judged.Judged.{Judged}
use Rattle.judging_laws.specs.Counted.{round_counts}
use Rattle.judging_laws.proofs.Counted.{greatest-are-counts}
use Rattle.schedule_reader.specs.Schedules.{PlainSchedule}
use Rattle.trace_player.specs.Playing.{IsPlayed}
use Rattle.trace_player.specs.declared.runs.Played.{Played}
use Rattle.step_report.specs.Traces.{played_text}
use Rattle.step_plan.specs.declared.status.Status.TheVariants.{Proved}
use Rattle.step_plan.specs.Outcome.{Outcome}
use Rattle.step_run.specs.Scheduled.{start_of, observed_of}
use Rattle.step_run.specs.Played.{IsPlayedBy}
use Rattle.step_run.specs.Judged.{all_judged}
use Rattle.step_run.specs.Traced.{Scripted, schedule_played}
use Rattle.step_run.proofs.Scripts.{made_ends}

states-long : (later : List (TransName × State)) → length (map (λ step. step.1) later) ≡ length later
states-long later = length-map later (λ step. step.1)

last-long : (p : Processes) (s : State) (later : List (TransName × State)) → last (observed p s later) ≡ length later
last-long p s later = length-map later (λ step. (place_of p step.0, seen p step.1))

-- the numbers are the greatest of whatever run was played
abbrev pub AreItsCounts : Scripted → Played → List ℕ → Type 0
AreItsCounts x played counts = (s : State) (later : List (TransName × State)) → IsPlayed x.program.processes s later played → AreGreatest (observed x.program.processes s later) counts

-- and the judgements are those on it
abbrev pub AreItsJudgements : Scripted → Played → List Judged → Type 0
AreItsJudgements x played judged = (s : State) (later : List (TransName × State)) → IsPlayed x.program.processes s later played → judged ≡ all_judged (observed x.program.processes s later) x.steps

module _ (x : Scripted) (s : PlainSchedule) (played : Played) (h : IsPlayedBy x.program s played) where
  pub few_counts : (counts : List ℕ) → length s.moves ≤ 1000 → AreItsCounts x played counts → length counts < 2 ^ 32
  few_counts counts few greatest =
      let run = h.answers.1 in
      let long = (greatest (start_of x.program s) run.0 run.2).long in
      let states = h.states in
      let sizes : length (map plain_state played.states.items) ≡ suc (length (map (λ step. step.1) run.0)) = ap length run.2.states in
      omega (arith, long, sizes, length-map played.states.items plain_state, states-long run.0, last-long x.program.processes (start_of x.program s) run.0)

  pub reported_is : (counts : List ℕ) (judged : List Judged) (text : List ℕ) → AreItsCounts x played counts → AreItsJudgements x played judged
      → text ≡ played_text x.program.names x.steps (length s.moves) counts judged → ◌≡◌ {A = Outcome} (record { status = Proved; text = text }) (schedule_played x s)
  reported_is counts judged text greatest judgements is =
      let run = h.answers.1 in
      let o = observed_of x.program s run.0 in
      let same : counts ≡ round_counts o = greatest-are-counts o counts (greatest (start_of x.program s) run.0 run.2) in
      ap (λ (t : List ℕ). record { status = Proved; text = t })
      (is
      ∙ ap (λ c. played_text x.program.names x.steps (length s.moves) c judged) same
      ∙ ap (played_text x.program.names x.steps (length s.moves) (round_counts o)) (judgements (start_of x.program s) run.0 run.2))
      ∙ sym (made_ends x s run.0 h.answers.0 run.1)
