use Rattle.std.proofs.Common.{◌∙◌, ◌∷◌, [], sym, ap, map}
use Rattle.std.proofs.lemmas.List.{length-map, map-append}
use Rattle.std.proofs.lemmas.Result.{err_from_is_err_and}
use Rattle.st_reading.specs.Sign.{is}
use Rattle.proof_script.specs.Listing.{setting_view}
use Rattle.proof_script.proofs.Counting.{counted_next, counted_ends, counted_fails}
use Rattle.proof_script.proofs.lists.further.Goals as goal

pub returns-in_err-next-clause-reads : goal.returns-in_err-next-clause-reads
returns-in_err-next-clause-reads g c =
    let p = err_from_is_err_and c.from_residual.result c.from_residual.ensures.1 in
    rw (p.1, p.2) (counted_fails c.args.mark (g.T.Item.spelled (setting_view c.args.setting.now)) _ _ _ _ _ _ _ c.chain.invariant (c.chain-test.ensures ∙ ap (λ s. is s c.args.mark) c.ahead.ensures) c.advance.ensures
    (c.len.ensures ∙ c.chain.items.ok.0 ∙ sym (length-map c.chain.items.items g.T.Item.plainly)) c.in_err-next.ensures.reads)

pub chain-preserved : goal.chain-preserved
chain-preserved g c =
    counted_next c.args.mark (g.T.Item.spelled (setting_view c.args.setting.now)) _ _ _ _ _ _ _ _ _ c.chain.invariant (c.chain-test.ensures ∙ ap (λ s. is s c.args.mark) c.ahead.ensures) c.advance.ensures
    (c.len.ensures ∙ c.chain.items.ok.0 ∙ sym (length-map c.chain.items.items g.T.Item.plainly)) c.in_ok-next.ensures.reads c.in_ok-next.ensures.shrinks
    (ap (map g.T.Item.plainly) c.in_ok-push.ensures.items ∙ map-append g.T.Item.plainly c.chain.items.items (c.in_ok-next.next ∷ []))

pub returns-clause-reads : goal.returns-clause-reads
returns-clause-reads g c = counted_ends c.args.mark (g.T.Item.spelled (setting_view c.args.setting.now)) _ _ _ _ c.chain.invariant (c.chain-test.ensures ∙ ap (λ s. is s c.args.mark) c.ahead.ensures)
