use Rattle.std.proofs.Common.{◌≡◌, drop, map, [], length, ◌-◌}
use Rattle.expression_parser.specs.ExpressionTree.{expr_view}
use Rattle.st_program.specs.Plain.{plain_targets}
use Rattle.expression_typer.specs.Scope.{scope_view}
use Rattle.spl_typer.specs.Statements.{changes}
use Rattle.spl_typer.proofs.parts.changes.Given as goal

abbrev pub invariant-loop-i : goal.invariant-loop-i
invariant-loop-i l =
    changes (scope_view l.scope) (plain_targets l.out.items) (scope_view (drop l.i l.known)) (map expr_view (drop l.i l.values)) ≡ changes (scope_view l.scope) [] (scope_view l.known) (map expr_view l.values)

abbrev pub decreases-loop-i : goal.decreases-loop-i
decreases-loop-i l = length l.known - l.i
