use Rattle.std.proofs.Common.{◌++◌, codes}
use Rattle.std.specs.Fmt.{decimal}
use Rattle.step_report.proofs.Pieces.{further, last}
use Rattle.step_report.proofs.refusals.trailing.Goals as goal

pub returns : goal.returns
returns c =
    last _ _ (codes "trailing text at " ++ decimal c.args.place) (codes "\n") _ _
    (further _ (codes "trailing text at ") (decimal c.args.place) _ _ c.in_ok-push_text.ensures c.in_ok-push_number.ensures)
    c.push_text-2.ensures
