use Rattle.std.proofs.Common.{◌≡◌, drop, map, []}
use Rattle.st_reading.specs.Faults.{name_view}
use Rattle.expression_typer.specs.Scope.{scope_view}
use Rattle.spl_typer.specs.Statements.{targets}
use Rattle.spl_typer.proofs.parts.targets.Given as goal

abbrev pub invariant-loop-name : goal.invariant-loop-name
invariant-loop-name l =
    targets (scope_view l.scope) (scope_view l.out.items) (map name_view (drop l.name-index l.names)) ≡ targets (scope_view l.scope) [] (map name_view l.names)
