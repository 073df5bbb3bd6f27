use Rattle.std.proofs.Common.{◌+◌, get_or, refl, subst, arith}
use Rattle.st_form.specs.Shared.{plain_condition}
use Rattle.step_run.specs.Deciding.{EndsAt, tree_in}
use Rattle.step_run.specs.Views.{posed_view}
use Rattle.step_run.proofs.Slices.{some_of, one_found, one_ends}
use Rattle.step_run.proofs.proving.push_searched.Goals as goal

pub push_verdict-requires-clause-valid : goal.push_verdict-requires-clause-valid
push_verdict-requires-clause-valid c =
    let x = posed_view c.args.posed.now in
    let cs = c.args.posed.now.conditions.items in
    let place = c.args.place in
    let any = some_of cs (omega (arith, c.requires.place)) in
    subst (EndsAt x (place + 1) (plain_condition (get_or cs place any)) c.in_ok-verdict.verdict) c.in-On.is (c.in_ok-at_verdict.ensures any)

pub returns-in_ok-push_verdict-in-On-clause-writes : goal.returns-in_ok-push_verdict-in-On-clause-writes
returns-in_ok-push_verdict-in-On-clause-writes c =
    let x = posed_view c.args.posed.now in
    let cs = c.args.posed.now.conditions.items in
    let place = c.args.place in
    let v = c.in_ok-verdict.verdict in
    let any = some_of cs (omega (arith, c.requires.place)) in
    let here = subst (EndsAt x (place + 1) (plain_condition (get_or cs place any)) v) c.in-On.is (c.in_ok-at_verdict.ensures any) in
    (tree_in v, one_found x cs refl place any v c.requires.place (c.in_ok-verdict.ensures.answer any) here, c.in_ok-push_verdict-in-On.ensures.writes)

pub returns-in-Over-clause-writes : goal.returns-in-Over-clause-writes
returns-in-Over-clause-writes c =
    let x = posed_view c.args.posed.now in
    let cs = c.args.posed.now.conditions.items in
    let place = c.args.place in
    let v = c.in_ok-verdict.verdict in
    let any = some_of cs (omega (arith, c.requires.place)) in
    let here = subst (EndsAt x (place + 1) (plain_condition (get_or cs place any)) v) c.in-Over.is (c.in_ok-at_verdict.ensures any) in
    one_ends x cs refl place any v c.in-Over.ended c.requires.place (c.in_ok-verdict.ensures.answer any) here
