use Rattle.std.proofs.Common.{◌≡◌, drop}
use Rattle.st_program.specs.Groups.{paths_along}
use Rattle.st_program.specs.Plain.{plain_pieces}
use Rattle.spl_typer.specs.GroupViews.{path_views}
use Rattle.spl_typer.proofs.Products.{times}
use Rattle.spl_typer.proofs.paths.+paths.Given as goal

abbrev pub invariant-paths_along-loop-piece : goal.invariant-paths_along-loop-piece
invariant-paths_along-loop-piece l =
    times (path_views l.all.items) (paths_along (plain_pieces (drop l.piece-index l.pieces))) ≡ paths_along (plain_pieces l.pieces)
