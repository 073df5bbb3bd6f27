use Rattle.std.proofs.Common.{◌≡◌, ◌≤◌, ◌<◌, length, ap, sym, ◌∙◌, subst, arith}
use Rattle.st_form.specs.Plain.{plain}
use Rattle.temporal_goals.specs.Meaning.{test_of}
use Rattle.temporal_goals.specs.Texts.{invariant}
use Rattle.trace_player.specs.Judgements.{JudgedOn}
use Rattle.trace_player.specs.Columns.{states_in, sights, is_wide_formula}
use Rattle.trace_player.proofs.Clear.{clear}
use Rattle.trace_player.proofs.Verdicts.{wide_in, unclear, all-clear, judged, clear-invariant, flags-are, column-within, sights-long}
use Rattle.trace_player.proofs.judgement.judge_invariance.Goals as goal

pub returns-then-clear-states : goal.returns-then-clear-states
returns-then-clear-states c = λ o seen.
    let f = plain c.args.form.now in
    let xs = sights c.args.states.now c.args.fronts.now in
    let long = sights-long c.args.states.now c.args.fronts.now c.requires.fronts in
    let parts = clear-invariant o xs seen f c.in_ok-truths.truths.items c.in_ok-truths.ensures in
    let is : c.len-clear.result ≡ clear (wide_in (invariant f)) (states_in o) = omega (arith, c.len-clear.ensures, parts) in
    let short : c.len-clear.result < length (states_in o) = omega (arith, c.if-clear-states.true, long, ap length seen) in
    unclear (invariant f) o c.len-clear.result is short

pub invariance_failure-requires : goal.invariance_failure-requires
invariance_failure-requires c =
    let f = plain c.args.form.now in
    let within = column-within (is_wide_formula f) (test_of f) (sights c.args.states.now c.args.fronts.now) _ c.in_ok-truths.ensures in
    omega (arith, within, c.requires.few, ap length c.deref.ensures.value, sights-long c.args.states.now c.args.fronts.now c.requires.fronts)

pub returns : goal.returns
returns c = λ o seen.
    let f = plain c.args.form.now in
    let xs = sights c.args.states.now c.args.fronts.now in
    let long = sights-long c.args.states.now c.args.fronts.now c.requires.fronts in
    let values = c.deref.ensures.value ∙ c.in_ok-truths.ensures in
    let parts = clear-invariant o xs seen f c.in_ok-truths.truths.items c.in_ok-truths.ensures in
    let is : c.len-clear.result ≡ clear (wide_in (invariant f)) (states_in o) = omega (arith, c.len-clear.ensures, parts) in
    let all : length (states_in o) ≤ c.len-clear.result = omega (arith, c.if-clear-states.false, long, ap length seen) in
    let whole : length xs ≤ length c.deref.result.now = omega (arith, c.if-clear-states.false, long, c.len-clear.ensures, ap length c.deref.ensures.value) in
    subst (JudgedOn (invariant f) o) (sym c.judged_by.ensures)
    (judged (invariant f) o c.invariance_failure.result (all-clear (invariant f) o c.len-clear.result is all)
    (c.invariance_failure.ensures o (test_of f) (flags-are o xs seen f c.deref.result.now values whole)))
