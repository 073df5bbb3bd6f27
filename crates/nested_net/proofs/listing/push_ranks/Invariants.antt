use Rattle.std.proofs.Common.{map, drop}
use Rattle.temporal_goals.specs.Plain.{plain_nested_node}
use Rattle.vc_generator.specs.Plain.{plain_list}
use Rattle.vc_generator.specs.Walks.{numbered_from}
use Rattle.vc_generator.proofs.Growing.{Left}
use Rattle.rule_laws.specs.NestedNet.{nested_rank}
use Rattle.vc_generator.specs.Asked.{lemmas_of}
use Rattle.nested_net.proofs.listing.push_ranks.Given as goal

abbrev pub invariant-loop-index : goal.invariant-loop-index
invariant-loop-index l =
    Left (plain_list l.fn.out) (plain_list l.out) (numbered_from (nested_rank l.fn.asking.step (lemmas_of l.fn.asking)) 0 (map plain_nested_node l.fn.nodes))
    (numbered_from (nested_rank l.fn.asking.step (lemmas_of l.fn.asking)) l.index (map plain_nested_node (drop l.index l.fn.nodes)))
