use Rattle.std.proofs.Common.{◌≡◌, drop}
use Rattle.spl_parser.specs.ProgramTree.{statements, statement_views}
use Rattle.expression_typer.specs.Scope.{scope_view}
use Rattle.spl_typer.specs.Statements.{pieces_along}
use Rattle.spl_typer.specs.Row.{onto_pieces}
use Rattle.spl_typer.proofs.inner.+pieces.Given as goal

abbrev pub invariant-pieces_along-loop-item : goal.invariant-pieces_along-loop-item
invariant-pieces_along-loop-item l =
    onto_pieces l.out.items (pieces_along (scope_view l.scope) (statements (statement_views (drop l.item-index l.items)))) ≡ pieces_along (scope_view l.scope) (statements (statement_views l.items))
