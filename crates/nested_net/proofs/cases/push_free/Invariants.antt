use Rattle.std.proofs.Common.{◌≡◌, ◌++◌, map, drop}
use Rattle.st_form.specs.Plain.{plain}
use Rattle.temporal_goals.specs.Plain.{plain_level, plain_nested_node}
use Rattle.vc_generator.specs.Plain.{plain_case}
use Rattle.rule_laws.specs.NestedNet.{agreeing}
use Rattle.nested_net.specs.Walk.{free_within}
use Rattle.nested_net.proofs.cases.push_free.Given as goal

abbrev pub invariant-loop-next : goal.invariant-loop-next
invariant-loop-next l =
    map plain_case l.cases.items ++ map (free_within (plain l.fn.enabled) l.fn.count (plain_nested_node l.fn.node)) (agreeing l.fn.count (map plain_level l.fn.node.levels.items) (map plain_nested_node (drop l.next-index l.nodes)))
    ≡ map plain_case l.fn.cases.items ++ map (free_within (plain l.fn.enabled) l.fn.count (plain_nested_node l.fn.node)) (agreeing l.fn.count (map plain_level l.fn.node.levels.items) (map plain_nested_node l.fn.nodes))
