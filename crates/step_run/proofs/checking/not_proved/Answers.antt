use Rattle.std.proofs.Common.{◌+◌, get_or}
use Rattle.st_form.specs.Shared.{plain_condition}
use Rattle.step_run.specs.Views.{posed_view}
use Rattle.step_run.proofs.Verdicts.{not_proved_is}
use Rattle.step_run.proofs.checking.not_proved.Goals as goal

pub returns : goal.returns
returns c = λ any.
    not_proved_is (posed_view c.args.posed.now) (c.args.place + 1) (plain_condition (get_or c.args.posed.now.conditions.items c.args.place any)) c.args.reason c.in_ok-text.text.items (c.in_ok-text.ensures any)
