use Rattle.std.proofs.Common.{◌∙◌, ap}
use Rattle.std.proofs.lemmas.Result.{err_from_is_err_and}
use Rattle.diagram_reader.specs.Drawing.{item_in}
use Rattle.diagram_reader.proofs.Items.{item_next, items_end, item_fails}
use Rattle.diagram_reader.proofs.reading.items.Goals as goal

pub returns-in_err-read_item-clause-reads : goal.returns-in_err-read_item-clause-reads
returns-in_err-read_item-clause-reads c =
    let p = err_from_is_err_and c.from_residual.result c.from_residual.ensures.1 in
    rw (p.1, p.2) (item_fails _ _ _ _ _ _ _ _ _ c.chain.invariant (c.in-Some.ensures ∙ ap item_in c.ahead.ensures) c.place_of-place.ensures c.advance.ensures c.in_err-read_item.ensures.reads)

pub chain-preserved : goal.chain-preserved
chain-preserved c =
    item_next _ _ _ _ _ _ _ _ _ _ c.chain.invariant (c.in-Some.ensures ∙ ap item_in c.ahead.ensures) c.place_of-place.ensures c.advance.ensures c.in_ok-read_item.ensures.reads c.in_ok-read_item.ensures.shrinks

pub returns-clause-reads : goal.returns-clause-reads
returns-clause-reads c = items_end _ _ _ _ _ c.chain.invariant (c.in_default.ensures ∙ ap item_in c.ahead.ensures)
