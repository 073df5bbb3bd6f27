use Rattle.std.proofs.Common.{◌≡◌, drop}
use Rattle.st_program.specs.Groups.{are_written}
use Rattle.expression_typer.proofs.linear.are_written.Given as goal

abbrev pub invariant-loop-e : goal.invariant-loop-e
invariant-loop-e l = are_written (drop l.e-index l.entries) ≡ are_written l.entries
