use Rattle.std.proofs.Common.{◌∙◌, ap, ℕ, ◌+◌, map, drop, Ok, Err}
use Rattle.std.proofs.lemmas.Result.{err_from_is_err_and}
use Rattle.st_form.specs.Plain.{plain}
use Rattle.transition_system.specs.Plain.{plain_mode, plain_transition}
use Rattle.transition_system.specs.Systems.{PlainTransition}
use Rattle.temporal_goals.specs.Plain.{plain_drawn_node}
use Rattle.vc_generator.specs.Plain.{plain_list, plain_case}
use Rattle.vc_generator.specs.Walks.{numbered_from}
use Rattle.vc_generator.proofs.Counted.{few-at}
use Rattle.vc_generator.proofs.Growing.{left-next, left-refused, left-on}
use Rattle.vc_generator.specs.Asked.{lemmas_of}
use Rattle.diagram_conditions.specs.Leaving.{step_cases as step_cases_of}
use Rattle.diagram_conditions.specs.Moves.{leads_by}
use Rattle.diagram_conditions.specs.Plain.{plain_leaving}
use Rattle.diagram_conditions.proofs.Along.{with-cases}
use Rattle.diagram_conditions.proofs.moves.transitions_lead.Goals as goal

pub modes_lead-requires : goal.modes_lead-requires
modes_lead-requires c = few-at c.args.transitions.now c.loop-index.index c.index-transitions-index.result _ c.loop-index-test.true c.index-transitions-index.is c.requires.few

pub returns-in_err-modes_lead : goal.returns-in_err-modes_lead
returns-in_err-modes_lead c =
    let p = err_from_is_err_and c.from_residual-in_err-modes_lead.result c.from_residual-in_err-modes_lead.ensures.1 in
    let lemmas = lemmas_of c.args.origin.now.asking.now in
    let n = plain_drawn_node c.args.origin.now.node.now in
    let cases = step_cases_of c.args.origin.now.kind (plain c.args.origin.now.terminal.now) n (map plain_leaving c.args.edges.now) in
    let f = λ (i : ℕ) (t : PlainTransition). numbered_from (leads_by c.args.origin.now.asking.now.step lemmas n (cases i) t.name) 1 t.modes in
    let i = c.loop-index.index in
    let t = c.index-transitions-index.result in
    let next = left-next plain_transition f i i c.args.transitions.now t _ _ _ c.loop-index-test.true c.index-transitions-index.is c.loop-index.invariant in
    let same = ap (map plain_case) c.deref.ensures.value ∙ c.in_ok-cases.ensures in
    let grows = with-cases (Err c.in_err-modes_lead.field-0.0) (plain_list c.loop-index.out) (plain_list c.modes_lead.new.out) c.args.origin.now.asking.now.step lemmas n t.name (map plain_mode t.modes.items) (map plain_case c.deref.result.now) (cases i) same c.in_err-modes_lead.ensures in
    rw (p.1, p.2) (left-refused _ _ _ _ (f i (plain_transition t)) (numbered_from f (i + 1) (map plain_transition (drop (i + 1) c.args.transitions.now))) c.in_err-modes_lead.field-0.0 next grows.0 grows.1)

pub loop-index-preserved : goal.loop-index-preserved
loop-index-preserved c =
    let lemmas = lemmas_of c.args.origin.now.asking.now in
    let n = plain_drawn_node c.args.origin.now.node.now in
    let cases = step_cases_of c.args.origin.now.kind (plain c.args.origin.now.terminal.now) n (map plain_leaving c.args.edges.now) in
    let f = λ (i : ℕ) (t : PlainTransition). numbered_from (leads_by c.args.origin.now.asking.now.step lemmas n (cases i) t.name) 1 t.modes in
    let i = c.loop-index.index in
    let t = c.index-transitions-index.result in
    let next = left-next plain_transition f i i c.args.transitions.now t _ _ _ c.loop-index-test.true c.index-transitions-index.is c.loop-index.invariant in
    let same = ap (map plain_case) c.deref.ensures.value ∙ c.in_ok-cases.ensures in
    let grows = with-cases (Ok c.in_ok-modes_lead.field-0) (plain_list c.loop-index.out) (plain_list c.modes_lead.new.out) c.args.origin.now.asking.now.step lemmas n t.name (map plain_mode t.modes.items) (map plain_case c.deref.result.now) (cases i) same c.in_ok-modes_lead.ensures in
    left-on _ _ _ _ (f i (plain_transition t)) (numbered_from f (i + 1) (map plain_transition (drop (i + 1) c.args.transitions.now))) next grows.0 grows.1
