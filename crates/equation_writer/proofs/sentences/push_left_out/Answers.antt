use Rattle.std.proofs.Common.{codes}
use Rattle.std.specs.Fmt.{decimal}
use Rattle.step_report.proofs.Pieces.{last}
use Rattle.equation_writer.proofs.sentences.push_left_out.Goals as goal

pub returns : goal.returns
returns c = last _ _ (codes "% left out: eq") (decimal c.args.number) _ _ c.in_ok-push_text.ensures c.push_number.ensures
