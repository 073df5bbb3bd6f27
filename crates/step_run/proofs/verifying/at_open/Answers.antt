use Rattle.std.proofs.Common.{◌+◌, get_or, refl, subst, arith}
use Rattle.st_form.specs.Shared.{plain_condition}
use Rattle.step_plan.specs.declared.stage.Stage.TheVariants.{On, Over}
use Rattle.step_run.specs.Deciding.{EndsAt}
use Rattle.step_run.specs.Views.{posed_view}
use Rattle.step_run.proofs.Passing.{by_verdict_there}
use Rattle.step_run.proofs.Slices.{some_of}
use Rattle.step_run.proofs.verifying.at_open.Goals as goal

pub returns-in-On : goal.returns-in-On
returns-in-On c =
    let x = posed_view c.args.posed.now in
    let cs = c.args.posed.now.conditions.items in
    let place = c.args.place in
    let v = c.args.verdict.now in
    let any = some_of cs (omega (arith, c.requires.place)) in
    let here = subst (EndsAt x (place + 1) (plain_condition (get_or cs place any)) v) c.in-On.is (c.in_ok-at_verdict.ensures any) in
    by_verdict_there x cs refl place v (On c.in-On.field-0) any c.requires.place (c.requires.answer any) here

pub returns-in-Over : goal.returns-in-Over
returns-in-Over c =
    let x = posed_view c.args.posed.now in
    let cs = c.args.posed.now.conditions.items in
    let place = c.args.place in
    let v = c.args.verdict.now in
    let any = some_of cs (omega (arith, c.requires.place)) in
    let here = subst (EndsAt x (place + 1) (plain_condition (get_or cs place any)) v) c.in-Over.is (c.in_ok-at_verdict.ensures any) in
    by_verdict_there x cs refl place v (Over c.in-Over.ended) any c.requires.place (c.requires.answer any) here
