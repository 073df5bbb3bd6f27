use Rattle.std.proofs.Common.{◌≡◌, map, drop}
use Rattle.transition_system.specs.Plain.{plain_system}
use Rattle.temporal_goals.specs.Plain.{plain_node}
use Rattle.ranked_net.specs.Making.{first_fault}
use Rattle.ranked_net.proofs.making.first_fault.Given as goal

abbrev pub invariant-loop-index : goal.invariant-loop-index
invariant-loop-index l = first_fault (plain_system l.fn.fts) l.index (map plain_node (drop l.index l.fn.nodes)) ≡ first_fault (plain_system l.fn.fts) 0 (map plain_node l.fn.nodes)
