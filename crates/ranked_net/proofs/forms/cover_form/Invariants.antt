use Rattle.std.proofs.Common.{◌≡◌, ◌∷◌, map, take}
use Rattle.st_form.specs.Plain.{plain}
use Rattle.temporal_goals.specs.Plain.{plain_node}
use Rattle.rule_laws.specs.RankedNet.{starts_on}
use Rattle.ranked_net.proofs.forms.cover_form.Given as goal

abbrev pub invariant-loop-node : goal.invariant-loop-node
invariant-loop-node l = map plain l.parts.items ≡ plain l.fn.end ∷ map (starts_on l.fn.bound) (map plain_node (take l.node-index l.nodes))
