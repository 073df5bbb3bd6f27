use Rattle.std.proofs.Common.{◌≡◌, ◌≤◌, ◌<◌, length, ap, sym, ◌∙◌, subst, arith}
use Rattle.st_form.specs.Plain.{plain}
use Rattle.spl_semantics.specs.Limits.{wide_form}
use Rattle.temporal_goals.specs.Meaning.{test_of, number_of}
use Rattle.temporal_goals.specs.Texts.{response}
use Rattle.trace_player.specs.Judgements.{JudgedOn, store_in}
use Rattle.trace_player.specs.Columns.{states_in, sights, is_wide_formula}
use Rattle.trace_player.proofs.Clear.{clear}
use Rattle.trace_player.proofs.Verdicts.{wide_in, unclear, all-clear, judged, clear-response, flags-are, values-are, numbers-seen, column-within, sights-long}
use Rattle.trace_player.proofs.judgement.judge_response.Goals as goal

pub returns-then-clear-states : goal.returns-then-clear-states
returns-then-clear-states c = λ o shows seen.
    let p = plain c.args.premise.now in
    let q = plain c.args.target.now in
    let xs = sights c.args.states.now c.args.fronts.now in
    let long = sights-long c.args.states.now c.args.fronts.now c.requires.fronts in
    let bounds = c.in_ok-bounds.ensures ∙ numbers-seen c.args.bound.now c.args.states.now c.args.fronts.now c.requires.fronts in
    let parts = clear-response o xs seen p q c.args.bound.now c.in_ok-premise.premise.items c.in_ok-target.target.items c.in_ok-bounds.bounds.items c.in_ok-premise.ensures c.in_ok-target.ensures bounds in
    let is : c.min-clear.result ≡ clear (wide_in (response p q c.args.bound.now)) (states_in o) = omega (arith, c.min-clear.ensures, c.min.ensures, c.len.ensures, c.len-2.ensures, c.len-3.ensures, parts) in
    let short : c.min-clear.result < length (states_in o) = omega (arith, c.if-clear-states.true, long, ap length seen) in
    unclear (response p q c.args.bound.now) o c.min-clear.result is short

pub response_failure-requires-clause-premise : goal.response_failure-requires-clause-premise
response_failure-requires-clause-premise c =
    let p = plain c.args.premise.now in
    let within = column-within (is_wide_formula p) (test_of p) (sights c.args.states.now c.args.fronts.now) _ c.in_ok-premise.ensures in
    omega (arith, within, c.requires.long, sights-long c.args.states.now c.args.fronts.now c.requires.fronts, ap length c.deref.ensures.value, c.if-clear-states.false, c.min-clear.ensures, c.min.ensures, c.len.ensures, c.len-2.ensures, c.len-3.ensures)

pub response_failure-requires-clause-target : goal.response_failure-requires-clause-target
response_failure-requires-clause-target c =
    let q = plain c.args.target.now in
    let within = column-within (is_wide_formula q) (test_of q) (sights c.args.states.now c.args.fronts.now) _ c.in_ok-target.ensures in
    omega (arith, within, c.requires.long, sights-long c.args.states.now c.args.fronts.now c.requires.fronts, ap length c.deref-2.ensures.value, c.if-clear-states.false, c.min-clear.ensures, c.min.ensures, c.len.ensures, c.len-2.ensures, c.len-3.ensures)

pub response_failure-requires-clause-bounds : goal.response_failure-requires-clause-bounds
response_failure-requires-clause-bounds c =
    let bounds = c.in_ok-bounds.ensures ∙ numbers-seen c.args.bound.now c.args.states.now c.args.fronts.now c.requires.fronts in
    let within = column-within (λ x. wide_form c.args.bound.now (store_in x)) (number_of c.args.bound.now) (sights c.args.states.now c.args.fronts.now) _ bounds in
    omega (arith, within, c.requires.long, sights-long c.args.states.now c.args.fronts.now c.requires.fronts, ap length c.deref-3.ensures.value, c.if-clear-states.false, c.min-clear.ensures, c.min.ensures, c.len.ensures, c.len-2.ensures, c.len-3.ensures)

pub returns : goal.returns
returns c = λ o shows seen.
    let p = plain c.args.premise.now in
    let q = plain c.args.target.now in
    let g = response p q c.args.bound.now in
    let xs = sights c.args.states.now c.args.fronts.now in
    let long = sights-long c.args.states.now c.args.fronts.now c.requires.fronts in
    let bounds = c.in_ok-bounds.ensures ∙ numbers-seen c.args.bound.now c.args.states.now c.args.fronts.now c.requires.fronts in
    let parts = clear-response o xs seen p q c.args.bound.now c.in_ok-premise.premise.items c.in_ok-target.target.items c.in_ok-bounds.bounds.items c.in_ok-premise.ensures c.in_ok-target.ensures bounds in
    let is : c.min-clear.result ≡ clear (wide_in (response p q c.args.bound.now)) (states_in o) = omega (arith, c.min-clear.ensures, c.min.ensures, c.len.ensures, c.len-2.ensures, c.len-3.ensures, parts) in
    let all : length (states_in o) ≤ c.min-clear.result = omega (arith, c.if-clear-states.false, long, ap length seen) in
    let premise : length xs ≤ length c.deref.result.now = omega (arith, c.if-clear-states.false, long, c.min-clear.ensures, c.min.ensures, c.len.ensures, c.len-2.ensures, c.len-3.ensures, ap length c.deref.ensures.value) in
    let target : length xs ≤ length c.deref-2.result.now = omega (arith, c.if-clear-states.false, long, c.min-clear.ensures, c.min.ensures, c.len.ensures, c.len-2.ensures, c.len-3.ensures, ap length c.deref-2.ensures.value) in
    let values : length xs ≤ length c.deref-3.result.now = omega (arith, c.if-clear-states.false, long, c.min-clear.ensures, c.min.ensures, c.len.ensures, c.len-2.ensures, c.len-3.ensures, ap length c.deref-3.ensures.value) in
    subst (JudgedOn g o) (sym c.judged_by.ensures)
    (judged g o c.in_ok-failure.failure (all-clear g o c.min-clear.result is all)
    (c.in_ok-failure.ensures o (test_of p) (test_of q) (number_of c.args.bound.now) shows
    (flags-are o xs seen p c.deref.result.now (c.deref.ensures.value ∙ c.in_ok-premise.ensures) premise)
    (flags-are o xs seen q c.deref-2.result.now (c.deref-2.ensures.value ∙ c.in_ok-target.ensures) target)
    (values-are o xs seen c.args.bound.now c.deref-3.result.now (c.deref-3.ensures.value ∙ bounds) values)))
