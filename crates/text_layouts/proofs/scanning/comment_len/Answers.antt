use Rattle.std.proofs.Common.{arith}
use Rattle.text_layouts.proofs.Reading.{comment_some}
use Rattle.text_layouts.proofs.scanning.comment_len.Goals as goal

pub returns-clause-some : goal.returns-clause-some
returns-clause-some c = let some = comment_some c.args.text.now c.requires in omega (arith, some, c.line_len.ensures.is)
