use Rattle.expression_parser.proofs.Views.{view_chain}
use Rattle.expression_parser.proofs.expr.chain_of.Goals as goal

pub returns : goal.returns
returns c = view_chain c.args.first c.in_ok-first.first c.args.rest c.in_ok-first.ensures.ok
