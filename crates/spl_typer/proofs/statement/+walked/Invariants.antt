use Rattle.std.proofs.Common.{◌≡◌, drop}
use Rattle.spl_parser.specs.ProgramTree.{statements, statement_views, bodies, body_views}
use Rattle.expression_typer.specs.Scope.{scope_view}
use Rattle.spl_typer.specs.Walk.{state}
use Rattle.spl_typer.specs.Walking.{along, inside}
use Rattle.spl_typer.specs.Row.{onto_statements, onto_children}
use Rattle.spl_typer.proofs.statement.+walked.Given as goal

abbrev pub invariant-along-loop-item : goal.invariant-along-loop-item
invariant-along-loop-item l =
    onto_statements l.out.items (along (scope_view l.scope) l.place l.there (statements (statement_views (drop l.item-index l.items))) (state l.walk))
    ≡ along (scope_view l.scope) l.fn.here l.there (statements (statement_views l.items)) (state l.fn.walk)

abbrev pub invariant-inside-loop-raw : goal.invariant-inside-loop-raw
invariant-inside-loop-raw l =
    onto_children l.out.items (inside (scope_view l.scope) (bodies (body_views (drop l.raw-index l.raws))) (state l.walk)) ≡ inside (scope_view l.scope) (bodies (body_views l.raws)) (state l.fn.walk)
