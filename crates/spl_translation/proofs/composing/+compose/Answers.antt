use Rattle.std.proofs.Common.{◌++◌, map, ap, arith}
use Rattle.spl_translation.specs.Composing.{plain_composed}
use Rattle.spl_translation.proofs.Onwards.{piece_more, pieces_done, branches, if_onward}
use Rattle.spl_translation.proofs.composing.+compose.Goals as goal

pub compose-returns-in_ok-branch-in-If : goal.compose-returns-in_ok-branch-in-If
compose-returns-in_ok-branch-in-If t c =
    branches c.branch-alloc-in-If.result (map plain_composed c.args.out.now.items) (map plain_composed c.branch-alloc.new.out.items) (map plain_composed c.branch-alloc-in-If.new.out.items) _ _ _ c.in_ok-branch-in-If.ensures
    (if_onward c.args.piece.now c.in-If.test c.in-If.yes c.in-If.no c.deref-in-If.result.now c.deref-in-If-2.result.now (plain_composed c.args.start) (plain_composed c.in_ok-other-in-If.other) c.in-If.is c.deref-in-If.ensures.value c.deref-in-If-2.ensures.value c.in_ok-other-in-If.ensures)
    c.branch-alloc-in-If.ensures

pub compose_along-loop-piece-preserved : goal.compose_along-loop-piece-preserved
compose_along-loop-piece-preserved t c =
    piece_more c.args.pieces.now c.loop-piece.piece-index c.piece-item.result (map plain_composed c.loop-piece.paths.items) _ _ (omega arith) c.piece-item.is c.in_ok-paths.ensures c.loop-piece.invariant

pub compose_along-loop-path-init : goal.compose_along-loop-path-init
compose_along-loop-path-init t c =
    ap (λ z. map plain_composed c.args.out.now.items ++ z) (pieces_done c.args.pieces.now c.loop-piece.piece-index (map plain_composed c.loop-piece.paths.items) _ c.loop-piece-test.false c.loop-piece.invariant)
