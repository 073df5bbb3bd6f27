use Rattle.std.proofs.Common.{◌≡◌, ◌∷◌, map, take}
use Rattle.st_form.specs.Plain.{plain}
use Rattle.temporal_goals.specs.Plain.{plain_drawn_node}
use Rattle.rule_laws.specs.Diagrams.{chain_starts}
use Rattle.diagram_conditions.proofs.starts.on_some_link.Given as goal

abbrev pub invariant-loop-node : goal.invariant-loop-node
invariant-loop-node l = map plain l.forms.items ≡ plain l.fn.diagram.terminal ∷ map (chain_starts l.fn.bound) (map plain_drawn_node (take l.node-index l.fn.diagram.nodes.items))
