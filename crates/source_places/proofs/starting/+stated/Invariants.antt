use Rattle.std.proofs.Common.{◌≡◌, ◌++◌, map, drop}
use Rattle.spl_parser.specs.ProgramTree.{statements, statement_views, bodies, body_views}
use Rattle.source_places.specs.Starts.{start_view, starts_along, starts_beside}
use Rattle.source_places.proofs.starting.+stated.Given as goal

abbrev pub invariant-push_statements-loop-item : goal.invariant-push_statements-loop-item
invariant-push_statements-loop-item l =
    map start_view l.out.items ++ starts_along (statements (statement_views (drop l.item-index l.items)))
    ≡ map start_view l.fn.out.items ++ starts_along (statements (statement_views l.items))

abbrev pub invariant-push_bodies-loop-item : goal.invariant-push_bodies-loop-item
invariant-push_bodies-loop-item l =
    map start_view l.out.items ++ starts_beside (bodies (body_views (drop l.item-index l.items)))
    ≡ map start_view l.fn.out.items ++ starts_beside (bodies (body_views l.items))
