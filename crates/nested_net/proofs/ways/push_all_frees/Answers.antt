use Rattle.std.proofs.Common.{map}
use Rattle.transition_system.specs.Plain.{plain_system}
use Rattle.temporal_goals.specs.Plain.{plain_nested_node}
use Rattle.vc_generator.specs.Plain.{plain_case}
use Rattle.nested_net.specs.Walk.{free_cases}
use Rattle.nested_net.proofs.Depths.{depth-next}
use Rattle.nested_net.proofs.Reading.{moved-on}
use Rattle.nested_net.proofs.ways.push_all_frees.Goals as goal

pub loop-depth-preserved : goal.loop-depth-preserved
loop-depth-preserved c =
    let next = depth-next (free_cases (plain_system c.args.fts.now) (map plain_nested_node c.args.nodes.now) (plain_nested_node c.args.node.now)) c.loop-depth.depth c.args.count c.loop-depth-test.true in
    moved-on (map plain_case c.loop-depth.cases.items) (map plain_case c.push_frees.new.cases.items) _ _ _ _ c.in_ok-push_frees.ensures next c.loop-depth.invariant
