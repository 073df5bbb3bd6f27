use Rattle.std.proofs.Common.{map, drop}
use Rattle.temporal_goals.specs.Plain.{plain_node}
use Rattle.vc_generator.specs.Plain.{plain_list}
use Rattle.vc_generator.specs.Walks.{numbered_from}
use Rattle.vc_generator.proofs.Growing.{Left}
use Rattle.rule_laws.specs.RankedNet.{help_of}
use Rattle.vc_generator.specs.Asked.{system_of, lemmas_of}
use Rattle.ranked_net.proofs.listing.push_helps.Given as goal

abbrev pub invariant-loop-index : goal.invariant-loop-index
invariant-loop-index l =
    Left (plain_list l.fn.out) (plain_list l.out) (numbered_from (help_of l.fn.asking.step (system_of l.fn.asking) (lemmas_of l.fn.asking)) 0 (map plain_node l.fn.nodes))
    (numbered_from (help_of l.fn.asking.step (system_of l.fn.asking) (lemmas_of l.fn.asking)) l.index (map plain_node (drop l.index l.fn.nodes)))
