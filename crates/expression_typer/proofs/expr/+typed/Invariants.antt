use Rattle.std.proofs.Common.{◌≡◌, drop}
use Rattle.expression_parser.specs.ExpressionTree.{exprs_view}
use Rattle.st_program.specs.Plain.{plain_term}
use Rattle.expression_typer.specs.Chains.{chained}
use Rattle.expression_typer.specs.Typing.{all_typed_by}
use Rattle.expression_typer.specs.Row.{onto_all}
use Rattle.expression_typer.proofs.expr.+typed.Given as goal

abbrev pub invariant-all_typed_by-loop-item : goal.invariant-all_typed_by-loop-item
invariant-all_typed_by-loop-item g l =
    onto_all l.out.items (all_typed_by (g.N.Naming.told l.names) (exprs_view (drop l.item-index l.items))) ≡ all_typed_by (g.N.Naming.told l.names) (exprs_view l.items)

abbrev pub invariant-chained-loop-term : goal.invariant-chained-loop-term
invariant-chained-loop-term g l =
    chained (g.N.Naming.told l.names) l.place (plain_term l.value) (drop l.term-index l.rest) ≡ chained (g.N.Naming.told l.names) l.place (plain_term l.fn.first) l.rest
