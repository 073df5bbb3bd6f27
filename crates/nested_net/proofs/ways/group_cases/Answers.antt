use Rattle.std.proofs.Common.{◌∙◌, ◌<◌, ◌++◌, ◌∷◌, [], arith, ap, map, length}
use Rattle.st_form.specs.Plain.{plain}
use Rattle.transition_system.specs.Plain.{plain_system}
use Rattle.temporal_goals.specs.Plain.{plain_nested_node}
use Rattle.nested_net.specs.Walk.{depth_cases, plain_lists}
use Rattle.nested_net.proofs.Depths.{list-next}
use Rattle.nested_net.proofs.Reading.{moved-on}
use Rattle.nested_net.proofs.ways.group_cases.Goals as goal

pub loop-depth-preserved : goal.loop-depth-preserved
loop-depth-preserved c =
    let below : c.loop-depth.depth < length c.args.node.now.levels.items = omega (arith, c.loop-depth-test.true, c.len-depth-end.ensures) in
    let cases = depth_cases (plain_system c.args.fts.now) (map plain_nested_node c.args.nodes.now) (plain c.args.end.now) (plain_nested_node c.args.node.now) in
    let next = list-next cases c.loop-depth.depth (length c.args.node.now.levels.items) below in
    let grown = c.in_ok-push_list.ensures ∙ ap (λ cs. plain_lists c.loop-depth.lists.items ++ cs ∷ []) c.in_ok-cases.ensures in
    moved-on (plain_lists c.loop-depth.lists.items) (plain_lists c.push_list.new.lists.items) (cases c.loop-depth.depth ∷ []) _ _ _ grown next c.loop-depth.invariant
