use Rattle.std.proofs.Common.{◌≡◌, ◌++◌, map, drop}
use Rattle.st_form.specs.Plain.{plain}
use Rattle.temporal_goals.specs.Plain.{plain_drawn_node}
use Rattle.vc_generator.specs.Plain.{plain_case}
use Rattle.diagram_conditions.specs.Leaving.{end_case, along, step_cases as step_cases_of}
use Rattle.diagram_conditions.specs.Plain.{plain_leaving}
use Rattle.diagram_conditions.proofs.cases.step_cases.Given as goal

abbrev pub invariant-loop-leaving : goal.invariant-loop-leaving
invariant-loop-leaving l =
    map plain_case l.out.items ++ along (end_case l.kind (plain l.terminal) (plain_drawn_node l.node)) l.number (map plain_leaving (drop l.leaving-index l.edges))
    ≡ step_cases_of l.kind (plain l.terminal) (plain_drawn_node l.node) (map plain_leaving l.edges) l.number
