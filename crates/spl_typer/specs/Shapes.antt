-- What every text has: a statement in each body, block and group, two branches in a selection and two children in a cooperation.
-- A tree that has less gets a limit as its answer.
use Rattle.std.specs.Prelude.{ℕ, Bool, true, false, if◌then◌else◌, Result, Ok, Err}
use Rattle.st_tokens.specs.declared.limit.LimitKind.TheVariants as limits
use Rattle.spl_parser.specs.ProgramTree.{Statements, no_statements, followed, Bodies, no_bodies, beside}
use Rattle.expression_typer.specs.declared.fault.TypeFault.{TypeFault}
use Rattle.expression_typer.specs.declared.fault.TypeFault.TheVariants as faults

abbrev pub something : Bool → ℕ → Result (Unit {0}) TypeFault
something there place = if there then Ok tt else Err (faults.Limit limits.Statements place)

abbrev pub some_statement : Statements → Bool
some_statement no_statements = false
some_statement (followed x xs) = true

abbrev pub two_statements : Statements → Bool
two_statements no_statements = false
two_statements (followed x xs) = some_statement xs

abbrev pub some_body : Bodies → Bool
some_body no_bodies = false
some_body (beside x xs) = true

abbrev pub two_bodies : Bodies → Bool
two_bodies no_bodies = false
two_bodies (beside x xs) = some_body xs
