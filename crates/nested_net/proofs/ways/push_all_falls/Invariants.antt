use Rattle.std.proofs.Common.{◌≡◌, ◌-◌, ◌++◌, map}
use Rattle.temporal_goals.specs.Plain.{plain_nested_node}
use Rattle.vc_generator.specs.Plain.{plain_case}
use Rattle.rule_laws.specs.NestedNet.{each_depth}
use Rattle.nested_net.specs.Walk.{fall_cases}
use Rattle.nested_net.proofs.ways.push_all_falls.Given as goal

abbrev pub invariant-loop-depth : goal.invariant-loop-depth
invariant-loop-depth l =
    map plain_case l.cases.items ++ each_depth (fall_cases (map plain_nested_node l.fn.nodes) (plain_nested_node l.fn.node)) l.depth (l.fn.count - l.depth)
    ≡ map plain_case l.fn.cases.items ++ each_depth (fall_cases (map plain_nested_node l.fn.nodes) (plain_nested_node l.fn.node)) 0 l.fn.count
