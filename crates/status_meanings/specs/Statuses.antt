-- How the run of each request ends: with which status and which text, and exactly when.
use Rattle.std.specs.Prelude.{◌≡◌, ◌↔◌, ℕ, Option, Some, None}
use Rattle.step_words.specs.Request.{PlainRequest, checks, verifies, proves, makes, traces, finds}
use Rattle.step_workload.specs.Texts.{program_text, proof_text}
use Rattle.step_report.specs.declared.refusals.FileRole.TheVariants.{Program, Certificates, Schedule}
use Rattle.step_plan.specs.Outcome.{Outcome}
use Rattle.step_plan.specs.Plan.{Told, outcome_of}
use Rattle.step_run.specs.Outcome.{words_refused}
use Rattle.step_run.specs.Checked.{goals_proved}
use Rattle.step_run.specs.Verified.{goals_counted}
use Rattle.step_run.specs.Plans.{with_number, plan_of}
use Rattle.status_meanings.specs.Stages.{FileGoes, ProgramGoes, MadeTexts, PosedFiles, ScriptedFiles}
use Rattle.status_meanings.specs.Ends.{CheckGoes, SearchGoes, WritesGo, TraceGoes, FindsGo}

-- a workload's end bears its number
pub record CountsSo (n : ℕ) (o : Outcome) : Type 0 where
  pub inner : Outcome
  pub ends : MadeTexts (program_text n) (proof_text n) (λ x q. SearchGoes x (λ ts r. goals_counted x ts ≡ r) q) inner
  pub is : with_number n inner ≡ o

abbrev pub EndsAs : Told → Option PlainRequest → Outcome → Type 0
EndsAs told None o = words_refused ≡ o
EndsAs told (Some (checks a b c)) o = PosedFiles told a b (λ x q. FileGoes told Certificates c (λ ct r. CheckGoes x ct r) q) o
EndsAs told (Some (verifies a b)) o = PosedFiles told a b (λ x q. SearchGoes x (λ ts r. goals_proved x ≡ r) q) o
EndsAs told (Some (proves a b)) o = PosedFiles told a b (λ x q. SearchGoes x (λ ts r. WritesGo ts r) q) o
EndsAs told (Some (makes n)) o = CountsSo n o
EndsAs told (Some (traces a b c)) o = ScriptedFiles told a b (λ x q. FileGoes told Schedule c (λ st r. TraceGoes x st r) q) o
EndsAs told (Some (finds a)) o = FileGoes told Program a (λ pt q. ProgramGoes pt (λ p r. FindsGo p r) q) o

-- A run has this outcome exactly where it ends so.
abbrev pub RunsEndSo : Type 0
RunsEndSo = (told : Told) (request : Option PlainRequest) (o : Outcome) → (outcome_of told (plan_of request) ≡ Some o) ↔ EndsAs told request o
