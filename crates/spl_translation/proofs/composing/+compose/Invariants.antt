use Rattle.std.proofs.Common.{◌≡◌, ◌++◌, map, drop, length}
use Rattle.std.specs.Prelude.{flat_map}
use Rattle.st_program.specs.Plain.{plain_inner, plain_pieces}
use Rattle.spl_translation.specs.Composing.{onward, onward_along, plain_composed}
use Rattle.spl_translation.proofs.composing.+compose.Given as goal

abbrev pub invariant-compose_along-loop-piece : goal.invariant-compose_along-loop-piece
invariant-compose_along-loop-piece l =
    flat_map (onward_along (plain_pieces (drop l.piece-index l.pieces))) (map plain_composed l.paths.items)
    ≡ onward_along (plain_pieces l.pieces) (plain_composed l.fn.start)

abbrev pub invariant-compose_along-loop-path : goal.invariant-compose_along-loop-path
invariant-compose_along-loop-path l =
    map plain_composed l.out.items ++ map plain_composed l.paths.items
    ≡ map plain_composed l.fn.out.items ++ onward_along (plain_pieces l.pieces) (plain_composed l.fn.start)

abbrev pub decreases-compose_along-loop-path : goal.decreases-compose_along-loop-path
decreases-compose_along-loop-path l = length l.paths.items

abbrev pub invariant-compose_each-loop-path : goal.invariant-compose_each-loop-path
invariant-compose_each-loop-path l =
    map plain_composed l.out.items ++ flat_map (onward (plain_inner l.piece)) (map plain_composed l.rest.items)
    ≡ flat_map (onward (plain_inner l.piece)) (map plain_composed l.fn.paths.items)

abbrev pub decreases-compose_each-loop-path : goal.decreases-compose_each-loop-path
decreases-compose_each-loop-path l = length l.rest.items
