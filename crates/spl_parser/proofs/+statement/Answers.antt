use Rattle.std.proofs.Common.{◌∙◌, sym, ap, Ok, Some, None}
use Rattle.std.proofs.lemmas.Result.{err_from_is_err_and}
use Rattle.std.proofs.lemmas.List.{map_push}
use Rattle.st_tokens.specs.Stream.{stream}
use Rattle.st_reading.specs.declared.mark.Mark.TheVariants as marks
use Rattle.st_reading.specs.Sign.{is}
use Rattle.st_reading.proofs.Loops.{linked_next, linked_ends, linked_fails}
use Rattle.spl_parser.specs.ProgramTree.{statement_view, statement_views, body_view, body_views}
use Rattle.spl_parser.specs.Item.{item_view}
use Rattle.spl_parser.proofs.StatementRows.{view_made_body}
use Rattle.spl_parser.proofs.CountedLoops.{body_next, body_leaves, body_fails, body_closes, body_stays_open}
use Rattle.spl_parser.proofs.+statement.Goals as goal

pub statement::further-returns-in_err-next-clause-reads : goal.statement::further-returns-in_err-next-clause-reads
statement::further-returns-in_err-next-clause-reads t c =
    let p = err_from_is_err_and c.from_residual.result c.from_residual.ensures.1 in
    rw (p.1, p.2) (linked_fails c.args.mark _ _ _ _ _ _ _ _ _ c.chain.invariant (c.chain-test.ensures ∙ ap (λ g. is g c.args.mark) c.ahead.ensures) c.advance.ensures c.in_err-next.ensures.reads)

pub statement::further-chain-preserved : goal.statement::further-chain-preserved
statement::further-chain-preserved t c =
    linked_next c.args.mark _ _ _ _ _ _ _ _ _ _ _ _ c.chain.invariant (c.chain-test.ensures ∙ ap (λ g. is g c.args.mark) c.ahead.ensures) c.advance.ensures c.in_ok-next.ensures.reads c.in_ok-next.ensures.shrinks
    (ap statement_views c.in_ok-push.ensures.items ∙ map_push statement_view c.chain.statements.items c.in_ok-next.next)

pub statement::further-returns-clause-reads : goal.statement::further-returns-clause-reads
statement::further-returns-clause-reads t c = linked_ends c.args.mark _ _ _ _ _ _ _ c.chain.invariant (c.chain-test.ensures ∙ ap (λ g. is g c.args.mark) c.ahead.ensures)

pub bodies::further_children-returns-in_err-next-clause-reads : goal.bodies::further_children-returns-in_err-next-clause-reads
bodies::further_children-returns-in_err-next-clause-reads t c =
    let p = err_from_is_err_and c.from_residual.result c.from_residual.ensures.1 in
    rw (p.1, p.2) (linked_fails marks.Bars _ _ _ _ _ _ _ _ _ c.chain.invariant (c.chain-test.ensures ∙ ap (λ g. is g marks.Bars) c.ahead.ensures) c.advance.ensures c.in_err-next.ensures.reads)

pub bodies::further_children-chain-preserved : goal.bodies::further_children-chain-preserved
bodies::further_children-chain-preserved t c =
    linked_next marks.Bars _ _ _ _ _ _ _ _ _ _ _ _ c.chain.invariant (c.chain-test.ensures ∙ ap (λ g. is g marks.Bars) c.ahead.ensures) c.advance.ensures c.in_ok-next.ensures.reads c.in_ok-next.ensures.shrinks
    (ap body_views c.in_ok-push.ensures.items ∙ map_push body_view c.chain.bodies.items c.in_ok-next.next)

pub bodies::further_children-returns-clause-reads : goal.bodies::further_children-returns-clause-reads
bodies::further_children-returns-clause-reads t c = linked_ends marks.Bars _ _ _ _ _ _ _ c.chain.invariant (c.chain-test.ensures ∙ ap (λ g. is g marks.Bars) c.ahead.ensures)

pub bodies::rest_of_body-returns-in_err-name-clause-reads : goal.bodies::rest_of_body-returns-in_err-name-clause-reads
bodies::rest_of_body-returns-in_err-name-clause-reads t c =
    let p = err_from_is_err_and c.from_residual.result c.from_residual.ensures.1 in
    rw (p.1, p.2) (body_fails _ _ _ _ _ _ _ _ _ c.chain.invariant (c.chain-test.ensures ∙ ap (λ g. is g marks.Semicolon) c.ahead.ensures) c.advance.ensures c.in_err-name.ensures.reads)

pub bodies::rest_of_body-returns-in-Last-clause-reads : goal.bodies::rest_of_body-returns-in-Last-clause-reads
bodies::rest_of_body-returns-in-Last-clause-reads t c =
    let read = c.in_ok-name.ensures.reads ∙ ap (λ x. Ok ((item_view x, c.item.new.count), stream c.item.new.tokens)) c.in-Last.is in
    body_leaves _ _ _ _ _ _ _ _ _ _ _ c.chain.invariant (c.chain-test.ensures ∙ ap (λ g. is g marks.Semicolon) c.ahead.ensures) c.advance.ensures read
    ∙ ap (λ x. Ok ((x, c.item.new.count), stream c.item.new.tokens)) (sym (view_made_body c.chain.statements (Some c.in-Last.name)))

pub bodies::rest_of_body-chain-preserved : goal.bodies::rest_of_body-chain-preserved
bodies::rest_of_body-chain-preserved t c =
    let read = c.in_ok-name.ensures.reads ∙ ap (λ x. Ok ((item_view x, c.item.new.count), stream c.item.new.tokens)) c.in-Statement.is in
    body_next _ _ _ _ _ _ _ _ _ _ _ _ c.chain.invariant (c.chain-test.ensures ∙ ap (λ g. is g marks.Semicolon) c.ahead.ensures) c.advance.ensures read c.in_ok-name.ensures.shrinks
    (ap statement_views c.in_ok-push-in-Statement.ensures.items ∙ map_push statement_view c.chain.statements.items c.in-Statement.statement)

pub bodies::rest_of_body-returns-in_err-expect-clause-reads : goal.bodies::rest_of_body-returns-in_err-expect-clause-reads
bodies::rest_of_body-returns-in_err-expect-clause-reads t c =
    let p = err_from_is_err_and c.from_residual-in_err-expect.result c.from_residual-in_err-expect.ensures.1 in
    rw (p.1, p.2) (body_stays_open _ _ _ _ _ _ _ _ c.chain.invariant (c.chain-test.ensures ∙ ap (λ g. is g marks.Semicolon) c.ahead.ensures) c.in_err-expect.ensures.reads)

pub bodies::rest_of_body-returns-clause-reads : goal.bodies::rest_of_body-returns-clause-reads
bodies::rest_of_body-returns-clause-reads t c =
    body_closes _ _ _ _ _ _ _ _ _ c.chain.invariant (c.chain-test.ensures ∙ ap (λ g. is g marks.Semicolon) c.ahead.ensures) c.in_ok-expect.ensures.reads
    ∙ ap (λ x. Ok ((x, c.chain.count), stream c.expect.new.tokens)) (sym (view_made_body c.chain.statements None))
