use Rattle.std.proofs.Common.{◌≡◌, drop}
use Rattle.spl_typer.specs.GroupViews.{path_views}
use Rattle.spl_typer.specs.Measured as told
use Rattle.spl_typer.proofs.composing.paths_on.Given as goal

abbrev pub invariant-loop-path : goal.invariant-loop-path
invariant-loop-path l =
    told.paths_measured l.at (path_views (drop l.path-index l.paths)) l.weight ≡ told.paths_measured l.at (path_views l.paths) l.fn.weight
