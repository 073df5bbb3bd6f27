use Rattle.std.proofs.Common.{◌≡◌, drop, min, length, ◌*◌, ◌≤◌}
use Rattle.st_program.specs.Groups.{paths_along}
use Rattle.st_program.specs.Plain.{plain_pieces}
use Rattle.spl_typer.proofs.paths.+count.Given as goal

abbrev pub invariant-count_along-loop-piece : goal.invariant-count_along-loop-piece
invariant-count_along-loop-piece l =
    (l.product ≤ 65) × (min (l.product * length (paths_along (plain_pieces (drop l.piece-index l.pieces)))) 65 ≡ min (length (paths_along (plain_pieces l.pieces))) 65)
