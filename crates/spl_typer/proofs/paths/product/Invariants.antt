use Rattle.std.proofs.Common.{◌≡◌, drop, ◌++◌}
use Rattle.spl_typer.specs.GroupViews.{path_views}
use Rattle.spl_typer.proofs.Products.{times}
use Rattle.spl_typer.proofs.paths.product.Given as goal

abbrev pub invariant-loop-path : goal.invariant-loop-path
invariant-loop-path l =
    path_views l.out.items ++ times (path_views (drop l.path-index l.paths)) (path_views l.further) ≡ times (path_views l.paths) (path_views l.further)
