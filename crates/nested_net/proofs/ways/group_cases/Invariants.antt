use Rattle.std.proofs.Common.{◌≡◌, ◌-◌, ◌++◌, length, map}
use Rattle.st_form.specs.Plain.{plain}
use Rattle.transition_system.specs.Plain.{plain_system}
use Rattle.temporal_goals.specs.Plain.{plain_nested_node}
use Rattle.nested_net.specs.Walk.{depth_cases, plain_lists, listed_depths}
use Rattle.nested_net.proofs.ways.group_cases.Given as goal

abbrev pub invariant-loop-depth : goal.invariant-loop-depth
invariant-loop-depth l =
    plain_lists l.lists.items ++ listed_depths (depth_cases (plain_system l.fn.fts) (map plain_nested_node l.fn.nodes) (plain l.fn.end) (plain_nested_node l.fn.node)) l.depth (length l.fn.node.levels.items - l.depth)
    ≡ listed_depths (depth_cases (plain_system l.fn.fts) (map plain_nested_node l.fn.nodes) (plain l.fn.end) (plain_nested_node l.fn.node)) 0 (length l.fn.node.levels.items)
