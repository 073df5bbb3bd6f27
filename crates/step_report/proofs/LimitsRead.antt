-- How the limits read, digit by digit.
use Rattle.std.proofs.Common.{◌≡◌, ℕ, List, ◌++◌, refl}
use Rattle.std.specs.Prelude.{codes}
use Rattle.std.specs.Fmt.{decimal, digits}
use Rattle.st_tokens.specs.declared.limit.LimitKind.{LimitKind}
use Rattle.st_tokens.specs.declared.limit.LimitKind.TheVariants as limits
use Rattle.step_report.specs.Limits.{limit_name, most}

abbrev pub most_text : LimitKind → List ℕ
most_text limits.Text = codes "Text 4194304"
most_text limits.Certificates = codes "Certificates 268435456"
most_text limits.Variables = codes "Variables 64"
most_text limits.Processes = codes "Processes 16"
most_text limits.Statements = codes "Statements 400"
most_text limits.Nesting = codes "Nesting 32"
most_text limits.Nodes = codes "Nodes 64"
most_text limits.Conditions = codes "Conditions 20000"
most_text limits.Atoms = codes "Atoms 2048"
most_text limits.Weight = codes "Weight 16777216"
most_text limits.Paths = codes "Paths 64"

pub limits_read : (kind : LimitKind) → limit_name kind ++ codes " " ++ decimal (most kind) ≡ most_text kind
unfolding digits
limits_read limits.Text = refl
limits_read limits.Certificates = refl
limits_read limits.Variables = refl
limits_read limits.Processes = refl
limits_read limits.Statements = refl
limits_read limits.Nesting = refl
limits_read limits.Nodes = refl
limits_read limits.Conditions = refl
limits_read limits.Atoms = refl
limits_read limits.Weight = refl
limits_read limits.Paths = refl
