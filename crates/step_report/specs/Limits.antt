-- The limits, and the text for one that is passed.
use Rattle.std.specs.Prelude.{ℕ, List, ◌++◌, codes}
use Rattle.std.specs.Fmt.{decimal}
use Rattle.st_tokens.specs.declared.limit.LimitKind.{LimitKind}
use Rattle.st_tokens.specs.declared.limit.LimitKind.TheVariants as limits
use Rattle.step_report.specs.Names.{line}

abbrev pub limit_name : LimitKind → List ℕ
limit_name limits.Text = codes "Text"
limit_name limits.Certificates = codes "Certificates"
limit_name limits.Variables = codes "Variables"
limit_name limits.Processes = codes "Processes"
limit_name limits.Statements = codes "Statements"
limit_name limits.Nesting = codes "Nesting"
limit_name limits.Nodes = codes "Nodes"
limit_name limits.Conditions = codes "Conditions"
limit_name limits.Atoms = codes "Atoms"
limit_name limits.Weight = codes "Weight"
limit_name limits.Paths = codes "Paths"

-- the most that a limit lets through
abbrev pub most : LimitKind → ℕ
most limits.Text = 4194304
most limits.Certificates = 268435456
most limits.Variables = 64
most limits.Processes = 16
most limits.Statements = 400
most limits.Nesting = 32
most limits.Nodes = 64
most limits.Conditions = 20000
most limits.Atoms = 2048
most limits.Weight = 16777216
most limits.Paths = 64

abbrev pub limit_text : LimitKind → List ℕ
limit_text kind = line (codes "limit: " ++ limit_name kind ++ codes " " ++ decimal (most kind))
