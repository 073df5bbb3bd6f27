use Rattle.std.proofs.Common.{◌≡◌, drop, map, ◌∷◌, ◌++◌}
use Rattle.spl_typer.specs.GroupViews.{link_view, path_views}
use Rattle.spl_typer.proofs.paths.begun.Given as goal

abbrev pub invariant-loop-path : goal.invariant-loop-path
invariant-loop-path l =
    path_views l.out.items ++ map (λ path. link_view l.link ∷ path) (path_views (drop l.path-index l.paths)) ≡ map (λ path. link_view l.link ∷ path) (path_views l.paths)
