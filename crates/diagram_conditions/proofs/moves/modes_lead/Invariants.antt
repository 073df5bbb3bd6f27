use Rattle.std.proofs.Common.{◌+◌, map, drop}
use Rattle.transition_system.specs.Plain.{plain_mode}
use Rattle.temporal_goals.specs.Plain.{plain_drawn_node}
use Rattle.vc_generator.specs.Plain.{plain_list, plain_case}
use Rattle.vc_generator.specs.Walks.{numbered_from}
use Rattle.vc_generator.proofs.Growing.{Left}
use Rattle.vc_generator.specs.Asked.{lemmas_of}
use Rattle.diagram_conditions.specs.Moves.{leads_by}
use Rattle.diagram_conditions.proofs.moves.modes_lead.Given as goal

abbrev pub invariant-loop-index : goal.invariant-loop-index
invariant-loop-index l =
    let f = leads_by l.fn.origin.asking.now.step (lemmas_of l.fn.origin.asking.now) (plain_drawn_node l.fn.origin.node.now) (map plain_case l.fn.cases) l.fn.transition.name in
    Left (plain_list l.fn.out) (plain_list l.out) (numbered_from f 1 (map plain_mode l.fn.transition.modes.items))
    (numbered_from f (l.index + 1) (map plain_mode (drop l.index l.fn.transition.modes.items)))
