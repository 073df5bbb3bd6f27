use Rattle.std.proofs.Common.{◌≡◌, ◌≤◌, ◌<◌, length, map, ap, sym, ◌∙◌, subst, arith}
use Rattle.st_form.specs.Plain.{plain}
use Rattle.temporal_goals.specs.Meaning.{test_of}
use Rattle.temporal_goals.specs.Texts.{waiting}
use Rattle.trace_player.specs.Judgements.{JudgedOn}
use Rattle.trace_player.specs.Columns.{states_in, sights, is_wide_formula, some_wide, row_of}
use Rattle.trace_player.proofs.Clear.{clear}
use Rattle.trace_player.proofs.Verdicts.{wide_in, unclear, all-clear, judged, clear-waiting, flags-are, rows-are, column-within, same-length, sights-long}
use Rattle.trace_player.proofs.judgement.judge_waiting.Goals as goal

pub returns-then-clear-states : goal.returns-then-clear-states
returns-then-clear-states c = λ o seen.
    let p = plain c.args.premise.now in
    let fs = map plain c.args.forms.now in
    let xs = sights c.args.states.now c.args.fronts.now in
    let long = sights-long c.args.states.now c.args.fronts.now c.requires.fronts in
    let parts = clear-waiting o xs seen p fs c.in_ok-premise.premise.items c.in_ok-rows.rows.items c.in_ok-premise.ensures c.in_ok-rows.ensures in
    let is : c.min-clear.result ≡ clear (wide_in (waiting p fs)) (states_in o) = omega (arith, c.min-clear.ensures, c.len.ensures, c.len-2.ensures, parts) in
    let short : c.min-clear.result < length (states_in o) = omega (arith, c.if-clear-states.true, long, ap length seen) in
    unclear (waiting p fs) o c.min-clear.result is short

pub waiting_failure-requires-clause-fits : goal.waiting_failure-requires-clause-fits
waiting_failure-requires-clause-fits c =
    let fs = map plain c.args.forms.now in
    let within = column-within (some_wide fs) (row_of fs) (sights c.args.states.now c.args.fronts.now) _ c.in_ok-rows.ensures in
    omega (arith, within, c.requires.few, ap length c.deref-2.ensures.value, same-length c.in_ok-rows.rows.items, sights-long c.args.states.now c.args.fronts.now c.requires.fronts)

pub waiting_failure-requires-clause-premise : goal.waiting_failure-requires-clause-premise
waiting_failure-requires-clause-premise c =
    let p = plain c.args.premise.now in
    let fs = map plain c.args.forms.now in
    let xs = sights c.args.states.now c.args.fronts.now in
    let rows = column-within (some_wide fs) (row_of fs) xs _ c.in_ok-rows.ensures in
    let premise = column-within (is_wide_formula p) (test_of p) xs _ c.in_ok-premise.ensures in
    let long = sights-long c.args.states.now c.args.fronts.now c.requires.fronts in
    omega (arith, rows, premise, long, ap length c.deref.ensures.value, ap length c.deref-2.ensures.value, same-length c.in_ok-rows.rows.items, c.if-clear-states.false, c.min-clear.ensures, c.len.ensures, c.len-2.ensures)

pub returns : goal.returns
returns c = λ o seen.
    let p = plain c.args.premise.now in
    let fs = map plain c.args.forms.now in
    let xs = sights c.args.states.now c.args.fronts.now in
    let long = sights-long c.args.states.now c.args.fronts.now c.requires.fronts in
    let parts = clear-waiting o xs seen p fs c.in_ok-premise.premise.items c.in_ok-rows.rows.items c.in_ok-premise.ensures c.in_ok-rows.ensures in
    let is : c.min-clear.result ≡ clear (wide_in (waiting p fs)) (states_in o) = omega (arith, c.min-clear.ensures, c.len.ensures, c.len-2.ensures, parts) in
    let all : length (states_in o) ≤ c.min-clear.result = omega (arith, c.if-clear-states.false, long, ap length seen) in
    let premise : length xs ≤ length c.deref.result.now = omega (arith, c.if-clear-states.false, long, c.min-clear.ensures, c.len.ensures, c.len-2.ensures, ap length c.deref.ensures.value) in
    let rows : length xs ≤ length c.deref-2.result.now = omega (arith, c.if-clear-states.false, long, c.min-clear.ensures, c.len.ensures, c.len-2.ensures, ap length c.deref-2.ensures.value) in
    subst (JudgedOn (waiting p fs) o) (sym c.judged_by.ensures)
    (judged (waiting p fs) o c.waiting_failure.result (all-clear (waiting p fs) o c.min-clear.result is all)
    (c.waiting_failure.ensures o (test_of p) (map test_of fs) (flags-are o xs seen p c.deref.result.now (c.deref.ensures.value ∙ c.in_ok-premise.ensures) premise)
    (rows-are o xs seen fs c.deref-2.result.now (ap (map (λ r. r.items)) c.deref-2.ensures.value ∙ c.in_ok-rows.ensures) rows)))
