use Rattle.std.proofs.Common.{◌∙◌, refl, sym, ap, arith, Ok}
use Rattle.std.proofs.lemmas.Result.{err_from_is_err_and}
use Rattle.std.proofs.lemmas.List.{map_push}
use Rattle.st_tokens.specs.Stream.{stream}
use Rattle.st_reading.specs.declared.mark.Mark.TheVariants as marks
use Rattle.st_reading.specs.Sign.{is}
use Rattle.st_reading.specs.Reading.{size}
use Rattle.st_reading.proofs.Streams.{behind_size}
use Rattle.st_reading.proofs.Loops.{listing_next, listing_ends, listing_fails}
use Rattle.expression_parser.specs.declared.raw.Operator.TheVariants as operators
use Rattle.expression_parser.specs.Signs.{front, product_sign, sum_sign}
use Rattle.expression_parser.specs.ExpressionTree.{expr_view, kind_view, terms_view, views, node, negation, negative, joined}
use Rattle.expression_parser.proofs.Rows.{terms_push}
use Rattle.expression_parser.proofs.Views.{view_all, view_any, view_not, view_negate, reads_made}
use Rattle.expression_parser.proofs.Loops.{grouping_next, grouping_ends, grouping_fails}
use Rattle.expression_parser.proofs.Levels.{atom_open, atom_fails, atom_unclosed, implication, implication_fails, negation_is, negation_fails, negative_is, negative_fails}
use Rattle.expression_parser.proofs.expr.+expr.Goals as goal

pub atom-returns-in_err-inner-in-Open-clause-reads : goal.atom-returns-in_err-inner-in-Open-clause-reads
atom-returns-in_err-inner-in-Open-clause-reads t c =
    let p = err_from_is_err_and c.from_residual-in_err-inner-in-Open.result c.from_residual-in_err-inner-in-Open.ensures.1 in
    rw (p.1, p.2) (atom_fails c.args.places c.args.room _ _ (omega arith) c.advance-in-Open.ensures (c.in-Open.ensures ∙ ap (front c.args.places) c.ahead.ensures) _ c.in_err-inner-in-Open.ensures.reads)

pub atom-returns-in_err-expect-in-Open-clause-reads : goal.atom-returns-in_err-expect-in-Open-clause-reads
atom-returns-in_err-expect-in-Open-clause-reads t c =
    let p = err_from_is_err_and c.from_residual-in_err-expect-in-Open.result c.from_residual-in_err-expect-in-Open.ensures.1 in
    rw (p.1, p.2) (atom_unclosed c.args.places c.args.room _ _ (omega arith) c.advance-in-Open.ensures (c.in-Open.ensures ∙ ap (front c.args.places) c.ahead.ensures) _ _ _ c.in_ok-inner-in-Open.ensures.reads c.in_err-expect-in-Open.ensures.reads)

pub atom-returns-in_ok-expect-in-Open-clause-reads : goal.atom-returns-in_ok-expect-in-Open-clause-reads
atom-returns-in_ok-expect-in-Open-clause-reads t c =
    atom_open c.args.places c.args.room _ _ (omega arith) c.advance-in-Open.ensures (c.in-Open.ensures ∙ ap (front c.args.places) c.ahead.ensures) _ _ _ _ c.in_ok-inner-in-Open.ensures.reads c.in_ok-expect-in-Open.ensures.reads
    ∙ ap (λ p. Ok (node p (kind_view c.in_ok-inner-in-Open.inner.kind), stream c.expect.new.tokens)) (sym c.place_of-place.ensures)

pub conjunction-returns-in_err-item-clause-reads : goal.conjunction-returns-in_err-item-clause-reads
conjunction-returns-in_err-item-clause-reads t c =
    let p = err_from_is_err_and c.from_residual-in_err-item.result c.from_residual-in_err-item.ensures.1 in
    rw (p.1, p.2) (listing_fails marks.And _ _ _ _ _ _ _ _ c.chain.invariant (c.chain-test.ensures ∙ ap (λ g. is g marks.And) c.ahead-in-chain.ensures) c.advance.ensures c.in_err-item.ensures.reads)

pub conjunction-chain-preserved : goal.conjunction-chain-preserved
conjunction-chain-preserved t c =
    listing_next marks.And _ _ _ _ _ _ _ _ _ _ c.chain.invariant (c.chain-test.ensures ∙ ap (λ g. is g marks.And) c.ahead-in-chain.ensures) c.advance.ensures c.in_ok-item.ensures.reads c.in_ok-item.ensures.shrinks
    (ap views c.in_ok-push-2.ensures.items ∙ map_push expr_view c.chain.items.items c.in_ok-item.item)

pub conjunction-returns-clause-reads : goal.conjunction-returns-clause-reads
conjunction-returns-clause-reads t c =
    listing_ends marks.And _ _ _ _ _ _ c.chain.invariant (c.chain-test.ensures ∙ ap (λ g. is g marks.And) c.ahead-in-chain.ensures)
    ∙ ap (λ x. Ok (x, stream c.chain.tokens)) (sym (view_all c.in_ok-first.first.place c.chain.items))

pub disjunction-returns-in_err-item-clause-reads : goal.disjunction-returns-in_err-item-clause-reads
disjunction-returns-in_err-item-clause-reads t c =
    let p = err_from_is_err_and c.from_residual-in_err-item.result c.from_residual-in_err-item.ensures.1 in
    rw (p.1, p.2) (listing_fails marks.Or _ _ _ _ _ _ _ _ c.chain.invariant (c.chain-test.ensures ∙ ap (λ g. is g marks.Or) c.ahead-in-chain.ensures) c.advance.ensures c.in_err-item.ensures.reads)

pub disjunction-chain-preserved : goal.disjunction-chain-preserved
disjunction-chain-preserved t c =
    listing_next marks.Or _ _ _ _ _ _ _ _ _ _ c.chain.invariant (c.chain-test.ensures ∙ ap (λ g. is g marks.Or) c.ahead-in-chain.ensures) c.advance.ensures c.in_ok-item.ensures.reads c.in_ok-item.ensures.shrinks
    (ap views c.in_ok-push-2.ensures.items ∙ map_push expr_view c.chain.items.items c.in_ok-item.item)

pub disjunction-returns-clause-reads : goal.disjunction-returns-clause-reads
disjunction-returns-clause-reads t c =
    listing_ends marks.Or _ _ _ _ _ _ c.chain.invariant (c.chain-test.ensures ∙ ap (λ g. is g marks.Or) c.ahead-in-chain.ensures)
    ∙ ap (λ x. Ok (x, stream c.chain.tokens)) (sym (view_any c.in_ok-first.first.place c.chain.items))

pub expression-returns-in_err-right-clause-reads : goal.expression-returns-in_err-right-clause-reads
expression-returns-in_err-right-clause-reads t c =
    let p = err_from_is_err_and c.from_residual-in_err-right.result c.from_residual-in_err-right.ensures.1 in
    rw (p.1, p.2) (implication_fails c.args.places c.args.room _ _ (omega arith) c.advance.ensures _ _ _ c.in_ok-left.ensures.reads (c.if-is.ensures ∙ ap (λ g. is g marks.Implies) c.ahead.ensures) c.in_err-right.ensures.reads)

pub expression-returns-in_ok-right-clause-reads : goal.expression-returns-in_ok-right-clause-reads
expression-returns-in_ok-right-clause-reads t c =
    let e = implication c.args.places c.args.room _ _ (omega arith) c.advance.ensures _ _ _ _ c.in_ok-left.ensures.reads (c.if-is.ensures ∙ ap (λ g. is g marks.Implies) c.ahead.ensures) c.in_ok-right.ensures.reads in
    reads_made _ _ _ _ c.join.ensures (e ∙ ap (λ p. Ok (joined operators.Implies p (expr_view c.in_ok-left.left) (expr_view c.in_ok-right.right), stream c.expression.new.tokens)) (sym c.place_of-at.ensures))

pub negation-returns-in_err-of-in-Not-clause-reads : goal.negation-returns-in_err-of-in-Not-clause-reads
negation-returns-in_err-of-in-Not-clause-reads t c =
    let p = err_from_is_err_and c.from_residual.result c.from_residual.ensures.1 in
    rw (p.1, p.2) (negation_fails c.args.places c.args.room _ _ (omega arith) c.advance.ensures (c.in-Not.ensures ∙ ap (front c.args.places) c.ahead.ensures) _ c.in_err-of-in-Not.ensures.reads)

pub unary-returns-in_err-of-in-Minus-clause-reads : goal.unary-returns-in_err-of-in-Minus-clause-reads
unary-returns-in_err-of-in-Minus-clause-reads t c =
    let p = err_from_is_err_and c.from_residual.result c.from_residual.ensures.1 in
    rw (p.1, p.2) (negative_fails c.args.places c.args.room _ _ (omega arith) c.advance.ensures (c.in-Minus.ensures ∙ ap (front c.args.places) c.ahead.ensures) _ c.in_err-of-in-Minus.ensures.reads)

pub negation-returns-in_ok-of-in-Not-2-clause-reads : goal.negation-returns-in_ok-of-in-Not-2-clause-reads
negation-returns-in_ok-of-in-Not-2-clause-reads t c =
    negation_is c.args.places c.args.room _ _ (omega arith) c.advance.ensures (c.in-Not.ensures ∙ ap (front c.args.places) c.ahead.ensures) _ _ c.in_ok-of-in-Not.ensures.reads
    ∙ ap (λ p. Ok (node p (negation (expr_view c.in_ok-of-in-Not.of)), stream c.negation.new.tokens)) (sym c.place_of-place.ensures)
    ∙ ap (λ x. Ok (node c.place_of-place.result (negation (expr_view x)), stream c.negation.new.tokens)) (sym c.in_ok-of-in-Not-2.ensures.ok)
    ∙ ap (λ x. Ok (x, stream c.negation.new.tokens)) (sym (view_not c.place_of-place.result c.in_ok-of-in-Not-2.of))

pub unary-returns-in_ok-of-in-Minus-2-clause-reads : goal.unary-returns-in_ok-of-in-Minus-2-clause-reads
unary-returns-in_ok-of-in-Minus-2-clause-reads t c =
    negative_is c.args.places c.args.room _ _ (omega arith) c.advance.ensures (c.in-Minus.ensures ∙ ap (front c.args.places) c.ahead.ensures) _ _ c.in_ok-of-in-Minus.ensures.reads
    ∙ ap (λ p. Ok (node p (negative p (expr_view c.in_ok-of-in-Minus.of)), stream c.unary.new.tokens)) (sym c.place_of-place.ensures)
    ∙ ap (λ x. Ok (node c.place_of-place.result (negative c.place_of-place.result (expr_view x)), stream c.unary.new.tokens)) (sym c.in_ok-of-in-Minus-2.ensures.ok)
    ∙ ap (λ x. Ok (x, stream c.unary.new.tokens)) (sym (view_negate c.place_of-place.result c.place_of-place.result c.in_ok-of-in-Minus-2.of))

pub product-returns-in_err-of-clause-reads : goal.product-returns-in_err-of-clause-reads
product-returns-in_err-of-clause-reads t c =
    let p = err_from_is_err_and c.from_residual-in_err-of.result c.from_residual-in_err-of.ensures.1 in
    rw (p.1, p.2) (grouping_fails product_sign _ _ _ _ _ _ _ _ c.chain.invariant (c.in-Some.ensures ∙ ap product_sign c.ahead.ensures) refl c.advance.ensures c.in_err-of.ensures.reads)

pub product-chain-preserved : goal.product-chain-preserved
product-chain-preserved t c =
    grouping_next product_sign _ _ _ _ _ _ _ _ _ _ c.chain.invariant (c.in-Some.ensures ∙ ap product_sign c.ahead.ensures) refl c.advance.ensures c.in_ok-of.ensures.reads c.in_ok-of.ensures.shrinks
    (ap (terms_view (expr_view c.in_ok-first.first)) c.in_ok-push.ensures.items ∙ terms_push (expr_view c.in_ok-first.first) c.chain.rest.items _
    ∙ ap (λ p. joined c.in-Some.operator p (terms_view (expr_view c.in_ok-first.first) c.chain.rest.items) (expr_view c.in_ok-of.of)) c.place_of-at.ensures)

pub product-returns-clause-reads : goal.product-returns-clause-reads
product-returns-clause-reads t c =
    reads_made _ _ _ _ c.chain_of.ensures (grouping_ends product_sign _ _ _ _ _ c.chain.invariant (c.in_default.ensures ∙ ap product_sign c.ahead.ensures) refl)

pub sum-returns-in_err-of-clause-reads : goal.sum-returns-in_err-of-clause-reads
sum-returns-in_err-of-clause-reads t c =
    let p = err_from_is_err_and c.from_residual-in_err-of.result c.from_residual-in_err-of.ensures.1 in
    rw (p.1, p.2) (grouping_fails sum_sign _ _ _ _ _ _ _ _ c.chain.invariant (c.in-Some.ensures ∙ ap sum_sign c.ahead.ensures) refl c.advance.ensures c.in_err-of.ensures.reads)

pub sum-chain-preserved : goal.sum-chain-preserved
sum-chain-preserved t c =
    grouping_next sum_sign _ _ _ _ _ _ _ _ _ _ c.chain.invariant (c.in-Some.ensures ∙ ap sum_sign c.ahead.ensures) refl c.advance.ensures c.in_ok-of.ensures.reads c.in_ok-of.ensures.shrinks
    (ap (terms_view (expr_view c.in_ok-first.first)) c.in_ok-push.ensures.items ∙ terms_push (expr_view c.in_ok-first.first) c.chain.rest.items _
    ∙ ap (λ p. joined c.in-Some.operator p (terms_view (expr_view c.in_ok-first.first) c.chain.rest.items) (expr_view c.in_ok-of.of)) c.place_of-at.ensures)

pub sum-returns-clause-reads : goal.sum-returns-clause-reads
sum-returns-clause-reads t c =
    reads_made _ _ _ _ c.chain_of.ensures (grouping_ends sum_sign _ _ _ _ _ c.chain.invariant (c.in_default.ensures ∙ ap sum_sign c.ahead.ensures) refl)

pub atom-returns-in_ok-name-in-At-clause-shrinks : goal.atom-returns-in_ok-name-in-At-clause-shrinks
atom-returns-in_ok-name-in-At-clause-shrinks t c =
    omega (arith, c.in_ok-name-in-At.ensures.shrinks, behind_size (stream c.args.tokens.now), ap size c.advance-in-At.ensures)
