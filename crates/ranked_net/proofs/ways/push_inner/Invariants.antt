use Rattle.std.proofs.Common.{◌≡◌, ◌++◌, map, drop}
use Rattle.temporal_goals.specs.Plain.{plain_node}
use Rattle.vc_generator.specs.Plain.{plain_case}
use Rattle.rule_laws.specs.RankedNet.{case_inner, grouped}
use Rattle.ranked_net.proofs.ways.push_inner.Given as goal

abbrev pub invariant-loop-next : goal.invariant-loop-next
invariant-loop-next l =
    map plain_case l.cases.items ++ map (case_inner (plain_node l.fn.node)) (grouped l.fn.node.group (map plain_node (drop l.next-index l.nodes)))
    ≡ map plain_case l.fn.cases.items ++ map (case_inner (plain_node l.fn.node)) (grouped l.fn.node.group (map plain_node l.fn.nodes))
