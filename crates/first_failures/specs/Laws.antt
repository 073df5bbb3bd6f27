-- Status 1 of `verify`, of `prove` and of workloads.
use Rattle.std.specs.Prelude.{◌≡◌, ℕ, List, ◌++◌, Some}
use Rattle.step_words.specs.Request.{PlainRequest, verifies, proves, makes}
use Rattle.step_workload.specs.Texts.{program_text, proof_text}
use Rattle.step_report.specs.Goals.{workload_line}
use Rattle.step_plan.specs.declared.status.Status.TheVariants.{NotProved}
use Rattle.step_plan.specs.Outcome.{Outcome}
use Rattle.step_plan.specs.Plan.{Told, EndsIn}
use Rattle.step_run.specs.Plans.{plan_of}
use Rattle.first_failures.specs.Failing.{FailsFirst}

-- the plan of the request ends so, with status 1 and this number
pub record EndsOpen (told : Told) (request : PlainRequest) (n : ℕ) (o : Outcome) : Type 0 where
  pub ends : EndsIn told (plan_of (Some request)) o
  pub status : o.status ≡ NotProved n

pub record SearchesFailFirst : Type 0 where
  pub verify : (told : Told) (a b program proof : List ℕ) → told a ≡ Some program → told b ≡ Some proof
      → (n : ℕ) (o : Outcome) → EndsOpen told (verifies a b) n o → FailsFirst program proof n o.text
  pub prove : (told : Told) (a b program proof : List ℕ) → told a ≡ Some program → told b ≡ Some proof
      → (n : ℕ) (o : Outcome) → EndsOpen told (proves a b) n o → FailsFirst program proof n o.text
  -- a workload, behind the line that names it
  pub workload : (told : Told) (number n : ℕ) (o : Outcome) → EndsOpen told (makes number) n o
      → (text : List ℕ) × (o.text ≡ workload_line number ++ text) × FailsFirst (program_text number) (proof_text number) n text
