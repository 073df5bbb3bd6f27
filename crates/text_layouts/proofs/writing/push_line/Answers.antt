use Rattle.std.proofs.Common.{◌++◌, ap, ◌∙◌, arith}
use Rattle.text_layouts.proofs.Layouts.{writes_all, writes_feed, writes_next}
use Rattle.text_layouts.proofs.writing.push_line.Goals as goal

pub loop-piece-preserved : goal.loop-piece-preserved
loop-piece-preserved c =
    let p = c.piece-item.result in
    writes_next _ _ _ c.gap.result.now c.args.pieces.now c.loop-piece.piece-index _ c.loop-piece.last p (omega arith) c.loop-piece.invariant c.gap.ensures
    (c.in_ok-extend_from_slice-2.ensures.items ∙ ap (λ z. z ++ p.text.now) c.in_ok-extend_from_slice.ensures.items)
    (omega (arith, c.loop-piece-test.true)) c.piece-item.is

pub returns : goal.returns
returns c =
    writes_all _ _ c.args.pieces.now c.loop-piece.piece-index (omega (arith, c.loop-piece-test.false))
    (writes_feed _ _ _ _ c.loop-piece.last c.loop-piece.invariant c.in_ok-push.ensures.items)
