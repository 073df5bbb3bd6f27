use Rattle.std.proofs.Common.{List, arith, length}
use Rattle.std.proofs.lemmas.Result.{IfOk-weaker}
use Rattle.linear_prover.specs.Plain.{plain_each, plain_node}
use Rattle.farkas_check.specs.Problem.{Problem}
use Rattle.farkas_check.specs.PlainProblem.{setting}
use Rattle.search_laws.specs.Walks.{walk}
use Rattle.search_laws.specs.Moves.{move_of}
use Rattle.linear_prover.specs.Plain.{plain_outcome}
use Rattle.linear_prover.specs.Divisions.{children}
use Rattle.linear_prover.proofs.Children.{children-size}
use Rattle.linear_prover.proofs.Steps.{found-more, stopped-here, all-done, ready-here}
use Rattle.linear_prover.proofs.Walking.{walk-here, rises-from, moved, children-ready}
use Rattle.linear_prover.proofs.walk.+walk.Goals as goal

pub walk-returns-in-Some-clause-exact : goal.walk-returns-in-Some-clause-exact
walk-returns-in-Some-clause-exact t c =
    IfOk-weaker c.walk_node.result _ _ (λ o h. walk-here (move_of (setting c.args.components.now c.args.variables.now)) c.args.levels (plain_node c.args.node.now) c.args.nodes (plain_outcome o) c.if-levels-eq0.false c.if-nodes-ge-MOST_NODES.false h) c.walk_node.ensures

pub walk-returns-in-Some-clause-rises : goal.walk-returns-in-Some-clause-rises
walk-returns-in-Some-clause-rises t c =
    IfOk-weaker c.walk_node.result _ _ (λ o h. rises-from (move_of (setting c.args.components.now c.args.variables.now)) c.args.levels (plain_node c.args.node.now) c.args.nodes (plain_outcome o) c.requires.counted
    (walk-here (move_of (setting c.args.components.now c.args.variables.now)) c.args.levels (plain_node c.args.node.now) c.args.nodes (plain_outcome o) c.if-levels-eq0.false c.if-nodes-ge-MOST_NODES.false h)) c.walk_node.ensures

pub walk_all-walk-requires : goal.walk_all-walk-requires
walk_all-walk-requires t c =
    let ps : List Problem = children c.args.components.now (plain_node c.args.node.now) c.args.fs.now c.args.division in
    (omega (arith, c.decreases), ((ready-here (length c.args.variables.now) ps c.loop-i.i (plain_node c.in_ok-next.next) c.in_ok-next.ensures c.loop-i.invariant.ready).0, (c.requires.few, c.loop-i.invariant.within)))

pub walk_all-returns-in-Stopped : goal.walk_all-returns-in-Stopped
walk_all-returns-in-Stopped t c =
    stopped-here (walk (move_of (setting c.args.components.now c.args.variables.now)) c.args.levels) c.loop-i.parts.items _ c.loop-i.i (plain_node c.in_ok-next.next) c.loop-i.now _ _ _ c.in_ok-next.ensures
    (rw c.in-Stopped.is at c.in_ok-part.ensures.exact) c.loop-i.invariant.same

pub walk_all-loop-i-preserved : goal.walk_all-loop-i-preserved
walk_all-loop-i-preserved t c =
    let ps : List Problem = children c.args.components.now (plain_node c.args.node.now) c.args.fs.now c.args.division in
    let rises = rw c.in-Found.is at c.in_ok-part.ensures.rises in
    let above = c.loop-i.invariant.above in
    let more = rises.0 in
    record {
      same =
          rw c.in_ok-push-in-Found.ensures.items (found-more (walk (move_of (setting c.args.components.now c.args.variables.now)) c.args.levels) c.loop-i.parts.items c.in-Found.part ps c.loop-i.i (plain_node c.in_ok-next.next) c.loop-i.now c.in-Found.after _ c.in_ok-next.ensures
          (rw c.in-Found.is at c.in_ok-part.ensures.exact) c.loop-i.invariant.same);
      ready = (ready-here (length c.args.variables.now) ps c.loop-i.i (plain_node c.in_ok-next.next) c.in_ok-next.ensures c.loop-i.invariant.ready).1;
      above = omega (arith, above, more);
      within = rises.1;
    }

pub walk_all-returns : goal.walk_all-returns
walk_all-returns t c =
    let ps : List Problem = children c.args.components.now (plain_node c.args.node.now) c.args.fs.now c.args.division in
    let size = children-size c.args.components.now (plain_node c.args.node.now) c.args.fs.now c.args.division in
    let end = c.loop-i-test.false in
    all-done (walk (move_of (setting c.args.components.now c.args.variables.now)) c.args.levels) c.loop-i.parts.items ps c.loop-i.i c.loop-i.now _ (omega (arith, size, end, c.count-i-end.ensures)) c.loop-i.invariant.same

pub walk_node-walk_all-requires : goal.walk_node-walk_all-requires
walk_node-walk_all-requires t c =
    let k = setting c.args.components.now c.args.variables.now in
    let exact = rw c.in-Divides.is at c.in_ok-picks.ensures.exact in
    let applies = rw c.in-Divides.is at c.in_ok-picks.ensures.applies in
    let ready =
    children-ready (length c.args.variables.now) k (plain_node c.args.node.now) c.args.fs.now c.in-Divides.division c.requires.are c.requires.ready
    (moved k (plain_node c.args.node.now) (plain_each c.args.fs.now) _ c.requires.are exact) in
    (omega (arith, c.decreases), (c.requires.ready.settled, (c.requires.ready.steady, (applies, (ready, (c.requires.few, c.requires.counted))))))
