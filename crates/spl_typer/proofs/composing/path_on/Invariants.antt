use Rattle.std.proofs.Common.{◌≡◌, drop, map}
use Rattle.spl_typer.specs.GroupViews.{link_view, measure_view}
use Rattle.spl_typer.specs.Measured as told
use Rattle.spl_typer.proofs.composing.path_on.Given as goal

abbrev pub invariant-loop-link : goal.invariant-loop-link
invariant-loop-link l =
    told.path_measured l.at (map link_view (drop l.link-index l.path)) (measure_view l.measure) ≡ told.path_measured l.at (map link_view l.path) told.no_measure
