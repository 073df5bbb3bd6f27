use Rattle.std.proofs.Common.{refl, arith}
use Rattle.std.proofs.lemmas.Result.{IfOk-weaker}
use Rattle.step_run.specs.Views.{posed_view}
use Rattle.step_run.proofs.Passing.{all_pass, open_within, answer_of_open, on_from_open}
use Rattle.step_run.proofs.verifying.searched.Goals as goal

pub returns-in-None : goal.returns-in-None
returns-in-None g c =
    let x = posed_view c.args.posed.now in
    let first = rw c.in-None.is at c.in_ok-first_open.ensures in
    all_pass x c.args.posed.now.conditions.items refl c.args.place c.len-end.result (omega (arith, c.len-end.ensures)) (omega (arith, c.len-end.ensures)) first.0

pub at_open-requires-clause-place : goal.at_open-requires-clause-place
at_open-requires-clause-place g c =
    let x = posed_view c.args.posed.now in
    let first = rw c.in-Some.is at c.in_ok-first_open.ensures in
    let within = open_within x c.args.posed.now.conditions.items refl c.args.place c.len-end.result c.in-Some.open.place (omega (arith, c.len-end.ensures)) (omega (arith, c.len-end.ensures)) first.0 in
    omega (arith, within, c.len-end.ensures)

pub at_open-requires-clause-answer : goal.at_open-requires-clause-answer
at_open-requires-clause-answer g c = λ any.
    (let x = posed_view c.args.posed.now in
    let cs = c.args.posed.now.conditions.items in
    let first = rw c.in-Some.is at c.in_ok-first_open.ensures in
    let within = open_within x cs refl c.args.place c.len-end.result c.in-Some.open.place (omega (arith, c.len-end.ensures)) (omega (arith, c.len-end.ensures)) first.0 in
    answer_of_open x cs refl c.args.place c.len-end.result c.in-Some.open.place c.in-Some.open.verdict any first.1.at.condition (omega (arith, c.len-end.ensures)) (omega (arith, c.len-end.ensures))
    (omega (arith, within)) first.1.at.there first.1.answer)

pub returns-in-Some : goal.returns-in-Some
returns-in-Some g c =
    let x = posed_view c.args.posed.now in
    let first = rw c.in-Some.is at c.in_ok-first_open.ensures in
    IfOk-weaker c.at_open.result _ _ (λ s h. on_from_open x c.args.posed.now.conditions.items refl c.args.place c.len-end.result c.in-Some.open.place s (omega (arith, c.len-end.ensures)) (omega (arith, c.len-end.ensures)) first.0 h) c.at_open.ensures
