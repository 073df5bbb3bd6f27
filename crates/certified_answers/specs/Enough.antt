-- That certificates of all conditions are enough.
use Rattle.std.specs.Prelude.{◌≡◌, ℕ, List, length, All}
use Rattle.st_form.specs.Shared.{plain_condition}
use Rattle.farkas_check.specs.PlainProblem.{setting}
use Rattle.temporal_goals.specs.Plain.{plain_script}
use Rattle.step_report.specs.Goals.{proved_text}
use Rattle.step_plan.specs.declared.status.Status.TheVariants.{Proved}
use Rattle.step_answers.specs.declared.answer.Answer.{Answer}
use Rattle.posed_conditions.specs.declared.translated.TranslatedProgram.{TranslatedProgram}
use Rattle.posed_conditions.specs.declared.scripts.PosedScript.{PosedScript}
use Rattle.posed_conditions.specs.Translated.{IsOfText}
use Rattle.posed_conditions.specs.Posed.{IsPosedBy}
use Rattle.found_trees.specs.Certified.{HasCertificate}
use Rattle.certified_answers.specs.Certified.{IsCertified}

-- status 0 and the report of `verify`
pub record IsReport (x : TranslatedProgram) (s : PosedScript) (a : Answer) : Type 0 where
  pub proved : a.status ≡ Proved
  pub said : a.text.items ≡ proved_text x.names (plain_script s.script) (length s.conditions.items)

-- of the texts by which a proof was posed, certificates of its conditions show all that its report says
unfoldable pub CertificatesAreEnough : Type 0
CertificatesAreEnough =
    (pt qt : List ℕ) (x : TranslatedProgram) (s : PosedScript) (a : Answer) → IsOfText pt x → IsPosedBy qt x s
    → All (λ c. HasCertificate (setting x.components x.program.variables) (plain_condition c)) s.conditions.items → IsReport x s a → IsCertified pt qt a
