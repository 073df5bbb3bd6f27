use Rattle.std.proofs.Common.{◌≡◌, ◌*◌, ◌<◌, ◌≤◌, length, drop}
use Rattle.st_program.specs.Groups.{paths_along}
use Rattle.st_program.specs.Plain.{plain_pieces}
use Rattle.spl_semantics.proofs.walks.+ways.Given as goal

abbrev pub invariant-ways_along-loop-piece : goal.invariant-ways_along-loop-piece
invariant-ways_along-loop-piece l = length (paths_along (plain_pieces l.pieces)) ≤ 64
    → (0 < l.count) × (l.count * length (paths_along (plain_pieces (drop l.piece-index l.pieces))) ≡ length (paths_along (plain_pieces l.pieces)))
