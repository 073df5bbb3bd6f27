-- A text of certificates that `check` accepts.
use Rattle.std.specs.Prelude.{◌≡◌, ℕ, List, Some, option_map}
use Rattle.step_plan.specs.declared.status.Status.TheVariants.{Proved}
use Rattle.step_answers.specs.declared.answer.Answer.{Answer}
use Rattle.milkhour_run.specs.declared.held_texts.Texts.{Texts}
use Rattle.table_answers.specs.Proved.{IsProved}

-- over the same program and proof, with these certificates, `check` answers this, by which the goals hold
pub record IsAcceptedBy (t : Texts) (certificates : List ℕ) (report : Answer) : Type 0 where
  pub certified : Texts
  pub program : certified.program ≡ t.program
  pub proof : certified.proof ≡ t.proof
  pub third : option_map (λ bytes. bytes.now) certified.third ≡ Some certificates
  pub proved : IsProved certified report

-- the answer has status 0, and its text is of certificates that `check` accepts
pub record IsWritten (t : Texts) (a : Answer) : Type 0 where
  pub status : a.status ≡ Proved
  pub accepted : (report : Answer) × IsAcceptedBy t a.text.items report
