use Rattle.std.proofs.Common.{◌≡◌, arith, ap, ◌∙◌}
use Rattle.expression_parser.specs.ExpressionTree.{kind_view, expr_view}
use Rattle.expression_parser.proofs.Rows.{kind_chain}
use Rattle.st_program.specs.Plain.{plain_term}
use Rattle.expression_typer.proofs.Chaining.{chain_given}
use Rattle.expression_typer.proofs.Conjuncts.{conjunct-step, conjunct-end}
use Rattle.expression_typer.proofs.expr.+typed.Goals as goal

pub all_typed_by-loop-item-preserved : goal.all_typed_by-loop-item-preserved
all_typed_by-loop-item-preserved g t c =
    rw c.in_ok-push.ensures.items
    (conjunct-step (g.N.Naming.told c.args.names.now) c.args.items.now c.loop-item.out.items c.loop-item.item-index _ _ c.in_ok-f.f _ (omega arith) c.item-item.is c.in_ok-typed_by.ensures c.in_ok-f.ensures c.loop-item.invariant)

pub all_typed_by-returns : goal.all_typed_by-returns
all_typed_by-returns g t c = conjunct-end (g.N.Naming.told c.args.names.now) c.args.items.now _ c.loop-item.item-index _ c.loop-item-test.false c.loop-item.invariant

pub typed_by-returns-in_ok-value-in-Chain : goal.typed_by-returns-in_ok-value-in-Chain
typed_by-returns-in_ok-value-in-Chain g t c =
    let first : c.deref-in-Chain.result.now ≡ c.in-Chain.first.value = cc in
    let again : c.deref-in-Chain-2.result.now ≡ c.in-Chain.first.value = cc in
    let rest : c.deref-in-Chain-3.result.now ≡ c.in-Chain.rest.items = cc in
    let given = rw first at c.in_ok-value-in-Chain.ensures in
    let more = rw (again, rest) at c.chained.ensures in
    rw (chain_given (g.N.Naming.told c.args.names.now) (kind_view c.args.e.now.kind) (expr_view c.in-Chain.first.value) c.in-Chain.rest.items (plain_term c.in_ok-value-in-Chain.value)
    (ap kind_view c.in-Chain.is ∙ kind_chain c.in-Chain.first c.in-Chain.rest) given)
    more
