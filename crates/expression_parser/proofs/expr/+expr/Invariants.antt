use Rattle.std.proofs.Common.{◌+◌, ◌*◌}
use Rattle.st_tokens.specs.Stream.{stream}
use Rattle.st_reading.specs.declared.mark.Mark.TheVariants as marks
use Rattle.st_reading.specs.Reading.{size, gives, only, listing}
use Rattle.st_reading.proofs.Chains.{Running}
use Rattle.expression_parser.specs.Signs.{product_sign, sum_sign}
use Rattle.expression_parser.specs.ExpressionTree.{expr_view, terms_view, views, exprs, node, all, any}
use Rattle.expression_parser.specs.Reading.{below, grouping, unary_of, product_of, sum_of, negation_of, conjunction_of, disjunction_of}
use Rattle.expression_parser.proofs.expr.+expr.Given as goal

abbrev pub decreases-atom : goal.decreases-atom
decreases-atom l = 16 * l.room + 0

abbrev pub decreases-unary : goal.decreases-unary
decreases-unary l = 16 * l.room + 1

abbrev pub decreases-product : goal.decreases-product
decreases-product l = 16 * l.room + 2

abbrev pub decreases-sum : goal.decreases-sum
decreases-sum l = 16 * l.room + 3

abbrev pub decreases-comparison : goal.decreases-comparison
decreases-comparison l = 16 * l.room + 4

abbrev pub decreases-negation : goal.decreases-negation
decreases-negation l = 16 * l.room + 5

abbrev pub decreases-conjunction : goal.decreases-conjunction
decreases-conjunction l = 16 * l.room + 6

abbrev pub decreases-disjunction : goal.decreases-disjunction
decreases-disjunction l = 16 * l.room + 7

abbrev pub decreases-expression : goal.decreases-expression
decreases-expression l = 16 * l.room + 8

abbrev pub invariant-product-chain : goal.invariant-product-chain
invariant-product-chain l = Running product_sign (grouping (unary_of l.places (below l.places l.room))) gives (terms_view (expr_view l.first) l.rest.items) (stream l.tokens) (stream l.fn.tokens) (product_of l.places (below l.places l.room) (stream l.fn.tokens))

abbrev pub decreases-product-chain : goal.decreases-product-chain
decreases-product-chain l = size (stream l.tokens)

abbrev pub invariant-sum-chain : goal.invariant-sum-chain
invariant-sum-chain l = Running sum_sign (grouping (product_of l.places (below l.places l.room))) gives (terms_view (expr_view l.first) l.rest.items) (stream l.tokens) (stream l.fn.tokens) (sum_of l.places (below l.places l.room) (stream l.fn.tokens))

abbrev pub decreases-sum-chain : goal.decreases-sum-chain
decreases-sum-chain l = size (stream l.tokens)

abbrev pub invariant-conjunction-chain : goal.invariant-conjunction-chain
invariant-conjunction-chain l = Running (only marks.And) (listing (negation_of l.places (below l.places l.room))) (λ xs. gives (node l.place (all (exprs xs)))) (views l.items.items) (stream l.tokens) (stream l.fn.tokens) (conjunction_of l.places (below l.places l.room) (stream l.fn.tokens))

abbrev pub decreases-conjunction-chain : goal.decreases-conjunction-chain
decreases-conjunction-chain l = size (stream l.tokens)

abbrev pub invariant-disjunction-chain : goal.invariant-disjunction-chain
invariant-disjunction-chain l = Running (only marks.Or) (listing (conjunction_of l.places (below l.places l.room))) (λ xs. gives (node l.place (any (exprs xs)))) (views l.items.items) (stream l.tokens) (stream l.fn.tokens) (disjunction_of l.places (below l.places l.room) (stream l.fn.tokens))

abbrev pub decreases-disjunction-chain : goal.decreases-disjunction-chain
decreases-disjunction-chain l = size (stream l.tokens)
