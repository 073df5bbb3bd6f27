use Rattle.std.proofs.Common.{arith, ◌+◌, ◌<◌, length, map, drop}
use Rattle.std.proofs.lemmas.Result.{err_from_is_err_and}
use Rattle.transition_system.specs.Plain.{plain_mode}
use Rattle.temporal_goals.specs.Plain.{plain_drawn_node}
use Rattle.vc_generator.specs.Plain.{plain_case}
use Rattle.vc_generator.specs.Walks.{numbered_from}
use Rattle.vc_generator.proofs.Growing.{left-next, left-refused, left-on}
use Rattle.vc_generator.specs.Asked.{lemmas_of}
use Rattle.diagram_conditions.specs.Moves.{leads_by}
use Rattle.diagram_conditions.proofs.moves.modes_lead.Goals as goal

pub returns-in_err-mode_leads : goal.returns-in_err-mode_leads
returns-in_err-mode_leads c =
    let p = err_from_is_err_and c.from_residual.result c.from_residual.ensures.1 in
    let modes = c.args.transition.now.modes.items in
    let i = c.loop-index.index in
    let below : i < length modes = omega (arith, c.loop-index-test.true, c.len-index-end.ensures) in
    let f = leads_by c.args.origin.now.asking.now.step (lemmas_of c.args.origin.now.asking.now) (plain_drawn_node c.args.origin.now.node.now) (map plain_case c.args.cases.now) c.args.transition.now.name in
    let next = left-next plain_mode f (i + 1) i modes c.index-mode.result.now _ _ _ below c.index-mode.ensures c.loop-index.invariant in
    rw (p.1, p.2) (left-refused _ _ _ _ (f (i + 1) (plain_mode c.index-mode.result.now)) (numbered_from f (i + 1 + 1) (map plain_mode (drop (i + 1) modes))) c.in_err-mode_leads.field-0.0 next c.in_err-mode_leads.ensures.0 c.in_err-mode_leads.ensures.1)

pub loop-index-preserved : goal.loop-index-preserved
loop-index-preserved c =
    let modes = c.args.transition.now.modes.items in
    let i = c.loop-index.index in
    let below : i < length modes = omega (arith, c.loop-index-test.true, c.len-index-end.ensures) in
    let f = leads_by c.args.origin.now.asking.now.step (lemmas_of c.args.origin.now.asking.now) (plain_drawn_node c.args.origin.now.node.now) (map plain_case c.args.cases.now) c.args.transition.now.name in
    let next = left-next plain_mode f (i + 1) i modes c.index-mode.result.now _ _ _ below c.index-mode.ensures c.loop-index.invariant in
    left-on _ _ _ _ (f (i + 1) (plain_mode c.index-mode.result.now)) _ next c.in_ok-mode_leads.ensures.0 c.in_ok-mode_leads.ensures.1
