use Rattle.std.proofs.Common.{◌+◌, get_or}
use Rattle.std.specs.Option.{option_map}
use Rattle.st_form.specs.Shared.{plain_condition}
use Rattle.search_verdicts.specs.Plain.{plain_path, plain_shown}
use Rattle.step_report.specs.declared.conditions.Reason.TheVariants.{Open}
use Rattle.step_report.specs.Searches.{open_text}
use Rattle.step_run.specs.Views.{posed_view}
use Rattle.step_run.proofs.Verdicts.{undecided_is}
use Rattle.step_run.proofs.deciding.left_open.Goals as goal

pub returns : goal.returns
returns c = λ any.
    (let x = posed_view c.args.posed.now in
    undecided_is x (c.args.place + 1) (plain_condition (get_or c.args.posed.now.conditions.items c.args.place any)) Open (open_text x.program.names (plain_path c.args.path.now) (option_map plain_shown c.args.state.now))
    c.in_ok-text.text.items c.open.new.out.items (c.in_ok-text.ensures any) c.in_ok-open.ensures)
