use Rattle.std.proofs.Common.{◌≡◌, ℕ, ◌+◌, ◌*◌, ◌≤◌, List, length, sym, ◌∙◌, subst, arith}
use Rattle.std.proofs.lemmas.List.{length-map}
use Rattle.std.proofs.lemmas.Result.{IfOk-weaker}
use Rattle.st_form.specs.Shared.{plain_condition}
use Rattle.st_certificate.specs.Tree.{Tree}
use Rattle.step_plan.specs.Outcome.{ended_view}
use Rattle.step_run.specs.Verified.{goals_counted, nodes_in}
use Rattle.step_run.specs.Deciding.{trees_in}
use Rattle.step_run.specs.Views.{posed_view}
use Rattle.step_run.proofs.Slices.{Come, come_on, come_to_end, come_over, nodes_append}
use Rattle.step_run.proofs.counting.counted.Goals as goal

-- so many nodes have the certificates of the conditions before a place
abbrev Counted : ℕ → ℕ → List Tree → Type 0
Counted nodes place ts = (nodes ≡ nodes_in ts) × (nodes ≤ 100000 * place)

pub loop-place-preserved : goal.loop-place-preserved
loop-place-preserved c =
    let x = posed_view c.args.posed.now in
    let l = c.loop-place in
    let items = c.in-On.verdicts.items in
    let next = rw c.in-On.is at c.in_ok-verdicts.ensures in
    let sized : c.len-place.result ≡ length items = omega (arith, c.len-place.ensures, c.in-On.verdicts.ok.0) in
    let count = rw c.deref.ensures.value at c.nodes_of-nodes.ensures.count in
    let most = rw c.deref.ensures.value at c.nodes_of-nodes.ensures.most in
    let now = l.nodes + c.nodes_of-nodes.result in
    let more = come_on x l.place (Counted l.nodes l.place) (Counted now (l.place + length items)) items l.invariant next
    (λ ts many kept. (let sum = nodes_append ts (trees_in items) in omega (arith, sum, count, kept.0), omega (arith, most, kept.1))) in
    subst (λ n. Come x (l.place + n) (Counted now (l.place + n))) (sym sized) more

pub returns-in-Over : goal.returns-in-Over
returns-in-Over c =
    let x = posed_view c.args.posed.now in
    let l = c.loop-place in
    come_over x l.place (Counted l.nodes l.place) (goals_counted x) (ended_view c.in-Over.ended) l.invariant (rw c.in-Over.is at c.in_ok-verdicts.ensures)

pub returns : goal.returns
returns c =
    let x = posed_view c.args.posed.now in
    let l = c.loop-place in
    let size = length-map c.args.posed.now.conditions.items plain_condition in
    let done = come_to_end x l.place (Counted l.nodes l.place) (goals_counted x) (omega (arith, size)) l.invariant in
    IfOk-weaker c.goals_counted.result _ _ (λ e h. h done.0 done.1.0 ∙ sym done.2) c.goals_counted.ensures
