use Rattle.std.proofs.Common.{map}
use Rattle.std.proofs.lemmas.Result.{err_from_is_err_and}
use Rattle.st_form.specs.Plain.{plain}
use Rattle.temporal_goals.specs.Plain.{plain_node}
use Rattle.vc_generator.proofs.Growing.{left-next, left-refused, left-on}
use Rattle.rule_laws.specs.RankedNet.{move_of}
use Rattle.vc_generator.specs.Asked.{system_of, lemmas_of}
use Rattle.ranked_net.proofs.Walked.{can-fall-at}
use Rattle.ranked_net.proofs.listing.push_moves.Goals as goal

pub move_from-requires-clause-base : goal.move_from-requires-clause-base
move_from-requires-clause-base c = (can-fall-at c.args.nodes.now c.loop-index.index c.index-nodes-index.result _ c.loop-index-test.true c.index-nodes-index.is c.requires.can_fall).0

pub move_from-requires-clause-delay : goal.move_from-requires-clause-delay
move_from-requires-clause-delay c = (can-fall-at c.args.nodes.now c.loop-index.index c.index-nodes-index.result _ c.loop-index-test.true c.index-nodes-index.is c.requires.can_fall).1

pub returns-in_err-move_from : goal.returns-in_err-move_from
returns-in_err-move_from c =
    let p = err_from_is_err_and c.from_residual.result c.from_residual.ensures.1 in
    let next = left-next plain_node (move_of c.args.asking.now.step (system_of c.args.asking.now) (lemmas_of c.args.asking.now) (map plain_node c.args.nodes.now) (plain c.args.end.now)) c.loop-index.index c.loop-index.index c.args.nodes.now c.index-nodes-index.result _ _ _ c.loop-index-test.true c.index-nodes-index.is c.loop-index.invariant in
    rw (p.1, p.2) (left-refused _ _ _ _ _ _ c.in_err-move_from.field-0.0 next c.in_err-move_from.ensures.0 c.in_err-move_from.ensures.1)

pub loop-index-preserved : goal.loop-index-preserved
loop-index-preserved c =
    let next = left-next plain_node (move_of c.args.asking.now.step (system_of c.args.asking.now) (lemmas_of c.args.asking.now) (map plain_node c.args.nodes.now) (plain c.args.end.now)) c.loop-index.index c.loop-index.index c.args.nodes.now c.index-nodes-index.result _ _ _ c.loop-index-test.true c.index-nodes-index.is c.loop-index.invariant in
    left-on _ _ _ _ _ _ next c.in_ok-move_from.ensures.0 c.in_ok-move_from.ensures.1
