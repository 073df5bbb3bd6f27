use Rattle.std.proofs.Common.{◌+◌, get_or}
use Rattle.st_form.specs.Shared.{plain_condition}
use Rattle.search_verdicts.specs.Plain.{plain_path}
use Rattle.step_report.specs.declared.conditions.Reason.TheVariants.{Wide}
use Rattle.step_report.specs.Searches.{wide_text}
use Rattle.step_run.specs.Views.{posed_view}
use Rattle.step_run.proofs.Verdicts.{undecided_is}
use Rattle.step_run.proofs.deciding.given_up.Goals as goal

pub returns : goal.returns
returns c = λ any.
    (let x = posed_view c.args.posed.now in
    undecided_is x (c.args.place + 1) (plain_condition (get_or c.args.posed.now.conditions.items c.args.place any)) Wide (wide_text x.program.names (plain_path c.args.path.now) c.args.stage.now)
    c.in_ok-text.text.items c.wide.new.out.items (c.in_ok-text.ensures any) c.in_ok-wide.ensures)
