use Rattle.std.proofs.Common.{◌≡◌, map, take}
use Rattle.st_form.specs.Plain.{plain}
use Rattle.temporal_goals.specs.Plain.{plain_drawn_node}
use Rattle.diagram_conditions.proofs.starts.on_some_node.Given as goal

abbrev pub invariant-loop-node : goal.invariant-loop-node
invariant-loop-node l = map plain l.forms.items ≡ map (λ n. n.form) (map plain_drawn_node (take l.node-index l.fn.diagram.nodes.items))
