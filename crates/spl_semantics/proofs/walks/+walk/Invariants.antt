use Rattle.std.proofs.Common.{◌≤◌, length, drop}
use Rattle.st_program.specs.Groups.{paths_along}
use Rattle.st_program.specs.Plain.{plain_pieces}
use Rattle.spl_semantics.specs.Data.{store_of, types, PiecesMeet}
use Rattle.spl_semantics.proofs.Walking.{Walks}
use Rattle.spl_semantics.proofs.walks.+walk.Given as goal

abbrev pub invariant-walk_along-loop-piece : goal.invariant-walk_along-loop-piece
invariant-walk_along-loop-piece l = PiecesMeet (types l.store) (plain_pieces l.pieces) → length (paths_along (plain_pieces l.pieces)) ≤ 64
    → Walks (types l.store) (plain_pieces l.pieces) (store_of l.store) l.number (plain_pieces (drop l.piece-index l.pieces)) (types l.now.items) (store_of l.now.items)
