use Rattle.std.proofs.Common.{◌≡◌, ◌∷◌, map, take}
use Rattle.st_form.specs.Plain.{plain}
use Rattle.temporal_goals.specs.Plain.{plain_nested_node}
use Rattle.rule_laws.specs.NestedNet.{nested_starts}
use Rattle.nested_net.proofs.forms.cover_form.Given as goal

abbrev pub invariant-loop-node : goal.invariant-loop-node
invariant-loop-node l = map plain l.parts.items ≡ plain l.fn.end ∷ map (nested_starts l.fn.bound) (map plain_nested_node (take l.node-index l.nodes))
