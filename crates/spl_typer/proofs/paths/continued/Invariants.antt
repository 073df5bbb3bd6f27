use Rattle.std.proofs.Common.{◌≡◌, drop, map, ◌++◌}
use Rattle.spl_typer.specs.GroupViews.{link_view, path_views}
use Rattle.spl_typer.proofs.paths.continued.Given as goal

abbrev pub invariant-loop-more : goal.invariant-loop-more
invariant-loop-more l =
    path_views l.out.items ++ map (λ more. map link_view l.path ++ more) (path_views (drop l.more-index l.further)) ≡ map (λ more. map link_view l.path ++ more) (path_views l.further)
