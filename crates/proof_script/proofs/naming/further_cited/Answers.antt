use Rattle.std.proofs.Common.{◌∙◌, ap}
use Rattle.std.proofs.lemmas.Result.{err_from_is_err_and}
use Rattle.st_reading.specs.declared.mark.Mark.TheVariants as marks
use Rattle.st_reading.specs.Sign.{is}
use Rattle.st_reading.proofs.Loops.{listing_next, listing_ends, listing_fails}
use Rattle.proof_script.proofs.naming.further_cited.Goals as goal

pub returns-in_err-next-clause-reads : goal.returns-in_err-next-clause-reads
returns-in_err-next-clause-reads c =
    let p = err_from_is_err_and c.from_residual.result c.from_residual.ensures.1 in
    rw (p.1, p.2) (listing_fails marks.Comma _ _ _ _ _ _ _ _ c.chain.invariant (c.chain-test.ensures ∙ ap (λ g. is g marks.Comma) c.ahead.ensures) c.advance.ensures c.in_err-next.ensures.reads)

pub chain-preserved : goal.chain-preserved
chain-preserved c =
    listing_next marks.Comma _ _ _ _ _ _ _ _ _ _ c.chain.invariant (c.chain-test.ensures ∙ ap (λ g. is g marks.Comma) c.ahead.ensures) c.advance.ensures c.in_ok-next.ensures.reads c.in_ok-next.ensures.shrinks
    c.in_ok-push.ensures.items

pub returns-clause-reads : goal.returns-clause-reads
returns-clause-reads c = listing_ends marks.Comma _ _ _ _ _ _ c.chain.invariant (c.chain-test.ensures ∙ ap (λ g. is g marks.Comma) c.ahead.ensures)
