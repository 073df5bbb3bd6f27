use Rattle.std.proofs.Common.{◌+◌, get_or}
use Rattle.st_form.specs.Shared.{plain_condition}
use Rattle.step_run.specs.Views.{posed_view}
use Rattle.step_run.proofs.Verdicts.{open_ends, wide_ends}
use Rattle.step_run.proofs.deciding.at_verdict.Goals as goal

pub returns-in_ok-left_open-in-Open : goal.returns-in_ok-left_open-in-Open
returns-in_ok-left_open-in-Open c = λ any.
    open_ends (posed_view c.args.posed.now) (c.args.place + 1) (plain_condition (get_or c.args.posed.now.conditions.items c.args.place any)) c.in-Open.path c.deref.result.now c.in-Open.state c.args.verdict.now
    c.in_ok-left_open-in-Open.field-0 c.in-Open.is c.deref.ensures.value (c.in_ok-left_open-in-Open.ensures any)

pub returns-in_ok-given_up-in-Wide : goal.returns-in_ok-given_up-in-Wide
returns-in_ok-given_up-in-Wide c = λ any.
    wide_ends (posed_view c.args.posed.now) (c.args.place + 1) (plain_condition (get_or c.args.posed.now.conditions.items c.args.place any)) c.in-Wide.path c.deref-in-Wide.result.now c.in-Wide.stage c.args.verdict.now
    c.in_ok-given_up-in-Wide.field-0 c.in-Wide.is c.deref-in-Wide.ensures.value (c.in_ok-given_up-in-Wide.ensures any)
