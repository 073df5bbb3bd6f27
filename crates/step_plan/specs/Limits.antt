-- How long a file may be, and how a run ends that passes a limit.
use Rattle.std.specs.Prelude.{ℕ}
use Rattle.st_tokens.specs.declared.limit.LimitKind.{LimitKind}
use Rattle.st_tokens.specs.declared.limit.LimitKind.TheVariants as limits
use Rattle.step_report.specs.declared.refusals.FileRole.{FileRole}
use Rattle.step_report.specs.declared.refusals.FileRole.TheVariants.{Program, Proof, Certificates, Schedule}
use Rattle.step_report.specs.Limits.{limit_text}
use Rattle.step_plan.specs.declared.status.Status.TheVariants.{Limit}
use Rattle.step_plan.specs.Outcome.{Outcome}

-- the most bytes of a file
abbrev pub length_limit : FileRole → ℕ
length_limit Program = 4194304
length_limit Proof = 4194304
length_limit Certificates = 268435456
length_limit Schedule = 4194304

abbrev pub length_kind : FileRole → LimitKind
length_kind Program = limits.Text
length_kind Proof = limits.Text
length_kind Certificates = limits.Certificates
length_kind Schedule = limits.Text

abbrev pub limited : LimitKind → Outcome
limited kind = record { status = Limit; text = limit_text kind }

-- how a run ends over a file that is longer
abbrev pub too_long : FileRole → Outcome
too_long role = limited (length_kind role)
