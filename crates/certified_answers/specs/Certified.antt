-- An answer that goals hold, since each condition has a certificate.
use Rattle.std.specs.Prelude.{◌≡◌, ℕ, List, All}
use Rattle.temporal_goals.specs.Texts.{PlainStep}
use Rattle.spl_typer.specs.Programs.{Typed}
use Rattle.step_plan.specs.declared.status.Status.TheVariants.{Proved}
use Rattle.step_run.specs.Conditions.{setting_of, conditions_of}
use Rattle.step_run.specs.WellFormed.{Reads}
use Rattle.step_run.specs.Headline.{Hold, report}
use Rattle.step_answers.specs.declared.answer.Answer.{Answer}
use Rattle.found_trees.specs.Certified.{HasCertificate}

-- The texts of a program and of a proof are well formed, and each condition has a valid certificate. So each goal holds
-- on every run, and the answer has status 0 and names the goals.
pub record IsCertified (pt qt : List ℕ) (a : Answer) : Type 0 where
  pub program : Typed
  pub steps : List PlainStep
  pub reads : Reads pt qt program steps
  pub certified : All (HasCertificate (setting_of program)) (conditions_of program steps)
  pub holds : Hold program steps
  pub proved : a.status ≡ Proved
  pub said : a.text.items ≡ report program steps
