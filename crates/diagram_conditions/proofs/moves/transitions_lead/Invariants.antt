use Rattle.std.proofs.Common.{map, drop}
use Rattle.st_form.specs.Plain.{plain}
use Rattle.transition_system.specs.Plain.{plain_transition}
use Rattle.temporal_goals.specs.Plain.{plain_drawn_node}
use Rattle.vc_generator.specs.Plain.{plain_list}
use Rattle.vc_generator.specs.Walks.{numbered_from}
use Rattle.vc_generator.proofs.Growing.{Left}
use Rattle.vc_generator.specs.Asked.{lemmas_of}
use Rattle.diagram_conditions.specs.Leaving.{step_cases as step_cases_of}
use Rattle.diagram_conditions.specs.Moves.{leads_by}
use Rattle.diagram_conditions.specs.Plain.{plain_leaving}
use Rattle.diagram_conditions.proofs.moves.transitions_lead.Given as goal

abbrev pub invariant-loop-index : goal.invariant-loop-index
invariant-loop-index l =
    Left (plain_list l.fn.out) (plain_list l.out)
    (numbered_from (λ n t. numbered_from (leads_by l.fn.origin.asking.now.step (lemmas_of l.fn.origin.asking.now) (plain_drawn_node l.fn.origin.node.now) (step_cases_of l.fn.origin.kind (plain l.fn.origin.terminal.now) (plain_drawn_node l.fn.origin.node.now) (map plain_leaving l.fn.edges) n) t.name) 1 t.modes)
    0 (map plain_transition l.fn.transitions))
    (numbered_from (λ n t. numbered_from (leads_by l.fn.origin.asking.now.step (lemmas_of l.fn.origin.asking.now) (plain_drawn_node l.fn.origin.node.now) (step_cases_of l.fn.origin.kind (plain l.fn.origin.terminal.now) (plain_drawn_node l.fn.origin.node.now) (map plain_leaving l.fn.edges) n) t.name) 1 t.modes)
    l.index (map plain_transition (drop l.index l.fn.transitions)))
