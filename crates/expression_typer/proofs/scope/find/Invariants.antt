use Rattle.std.proofs.Common.{◌≡◌, drop}
use Rattle.expression_typer.specs.Scope.{find, scope_view}
use Rattle.expression_typer.proofs.scope.find.Given as goal

abbrev pub invariant-loop-known : goal.invariant-loop-known
invariant-loop-known l = find l.name (scope_view (drop l.known-index l.scope)) ≡ find l.name (scope_view l.scope)
