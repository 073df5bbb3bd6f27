-- What a file of certificates says of conditions.
use Rattle.std.specs.Prelude.{ℕ, ◌≤◌, List}
use Rattle.st_form.specs.Condition.{Implication}
use Rattle.farkas_check.specs.Problem.{Setting}
use Rattle.cert_text.specs.Blank.{first_place, past_blanks}
use Rattle.block_laws.specs.Checked.{Checked, all_valid, refused, checked_from, whole_text}
use Rattle.step_report.specs.declared.refusals.FileRole.TheVariants.{Certificates}
use Rattle.step_plan.specs.Plan.{Plan, goes_on, asks}
use Rattle.certificate_batches.specs.declared.finding.Finding.{Finding}
use Rattle.certificate_batches.specs.declared.finding.Finding.TheVariants.{Discharged, Refused}

-- what is told of a check: behind the last block the place of what isn't blank, or the number of the first condition that isn't
-- discharged, and why
abbrev pub finding_of : Checked → Finding
finding_of (all_valid h) = Discharged (first_place (past_blanks h))
finding_of (refused number c reason) = Refused number reason

-- of the check of a whole text
unfoldable pub finding : Setting → List Implication → List ℕ → Finding
finding k cs text = finding_of (checked_from k 1 cs (whole_text text))

abbrev pub finding_view : Finding → Finding
finding_view f = f

-- the file of certificates is asked for, and the run goes on with what its text says
abbrev pub certificates_plan : Setting → List Implication → List ℕ → Plan Finding
certificates_plan k cs name = asks Certificates name (λ text. goes_on (finding k cs text))

-- a condition that is refused is one of so many
abbrev pub IsAmong : ℕ → Finding → Type 0
IsAmong size (Discharged place) = Unit {0}
IsAmong size (Refused number reason) = (1 ≤ number) × (number ≤ size)
