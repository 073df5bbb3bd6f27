use Rattle.std.proofs.Common.{◌≡◌, drop}
use Rattle.expression_typer.specs.Scope.{scope_view}
use Rattle.spl_typer.specs.Statements.{is_target}
use Rattle.spl_typer.proofs.parts.is_target.Given as goal

abbrev pub invariant-loop-k : goal.invariant-loop-k
invariant-loop-k l = is_target l.var (scope_view (drop l.k-index l.known)) ≡ is_target l.var (scope_view l.known)
