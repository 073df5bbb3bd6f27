use Rattle.std.proofs.Common.{◌≡◌, ◌∷◌, map, take}
use Rattle.st_form.specs.Plain.{plain}
use Rattle.temporal_goals.specs.Plain.{plain_node}
use Rattle.vc_generator.specs.Plain.{plain_case}
use Rattle.rule_laws.specs.RankedNet.{case_end, case_drop}
use Rattle.ranked_net.proofs.ways.group_steps.Given as goal

abbrev pub invariant-loop-next : goal.invariant-loop-next
invariant-loop-next l = map plain_case l.cases.items ≡ case_end (plain l.fn.end) ∷ map (case_drop (plain_node l.fn.node)) (map plain_node (take l.next-index l.nodes))
