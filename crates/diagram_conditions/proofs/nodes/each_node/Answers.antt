use Rattle.std.proofs.Common.{arith, ◌<◌, length}
use Rattle.std.proofs.lemmas.Result.{err_from_is_err_and}
use Rattle.vc_generator.proofs.Growing.{left-refused, left-on}
use Rattle.diagram_conditions.proofs.Pieces.{node-next, fall-at}
use Rattle.diagram_conditions.proofs.nodes.each_node.Goals as goal

pub append-requires : goal.append-requires
append-requires g c =
    let below : c.loop-index.index < length c.args.diagram.now.nodes.items = omega (arith, c.loop-index-test.true, c.len-index-end.ensures) in
    fall-at c.args.diagram.now.nodes.items c.loop-index.index c.index-node.result.now _ below c.index-node.ensures c.requires

pub returns-in_err-append : goal.returns-in_err-append
returns-in_err-append g c =
    let p = err_from_is_err_and c.from_residual.result c.from_residual.ensures.1 in
    let below : c.loop-index.index < length c.args.diagram.now.nodes.items = omega (arith, c.loop-index-test.true, c.len-index-end.ensures) in
    let next = node-next (g.P.PerNode.asks c.args.rule.now) c.loop-index.index c.args.diagram.now.nodes.items c.index-node.result.now _ _ _ below c.index-node.ensures c.loop-index.invariant in
    rw (p.1, p.2) (left-refused _ _ _ _ _ _ c.in_err-append.field-0.0 next c.in_err-append.ensures.0 c.in_err-append.ensures.1)

pub loop-index-preserved : goal.loop-index-preserved
loop-index-preserved g c =
    let below : c.loop-index.index < length c.args.diagram.now.nodes.items = omega (arith, c.loop-index-test.true, c.len-index-end.ensures) in
    let next = node-next (g.P.PerNode.asks c.args.rule.now) c.loop-index.index c.args.diagram.now.nodes.items c.index-node.result.now _ _ _ below c.index-node.ensures c.loop-index.invariant in
    left-on _ _ _ _ _ _ next c.in_ok-append.ensures.0 c.in_ok-append.ensures.1
