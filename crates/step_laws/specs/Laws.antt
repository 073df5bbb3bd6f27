-- What `prove` writes, `check` accepts.
use Rattle.std.specs.Prelude.{◌≡◌, ℕ, List, Some}
use Rattle.temporal_goals.specs.Texts.{PlainStep}
use Rattle.spl_typer.specs.Programs.{Typed}
use Rattle.step_words.specs.Request.{checks, proves}
use Rattle.step_plan.specs.declared.status.Status.TheVariants.{Proved}
use Rattle.step_plan.specs.Outcome.{Outcome}
use Rattle.step_plan.specs.Plan.{Told, outcome_of}
use Rattle.step_run.specs.WellFormed.{Reads}
use Rattle.step_run.specs.Headline.{report}
use Rattle.step_run.specs.Plans.{plan_of}

abbrev pub with_status_zero : List ℕ → Outcome
with_status_zero text = record { status = Proved; text = text }

-- `check` of these files ends with status 0, and names the goals of the script that the text of the proof spells over the
-- program of the other text
pub record IsAccepted (told : Told) (a b c program_text proof_text : List ℕ) : Type 0 where
  pub program : Typed
  pub steps : List PlainStep
  pub reads : Reads program_text proof_text program steps
  pub outcome : outcome_of told (plan_of (Some (checks a b c))) ≡ Some (with_status_zero (report program steps))

-- where `prove` ends with status 0 and a third file tells the text that it wrote
abbrev pub ProvedIsAccepted : Type 0
ProvedIsAccepted = (told : Told) (a b c program_text proof_text text : List ℕ)
    → told a ≡ Some program_text → told b ≡ Some proof_text → told c ≡ Some text
    → outcome_of told (plan_of (Some (proves a b))) ≡ Some (with_status_zero text)
    → IsAccepted told a b c program_text proof_text
