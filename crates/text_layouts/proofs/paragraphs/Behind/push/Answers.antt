use Rattle.std.proofs.Common.{arith}
use Rattle.text_layouts.proofs.Layouts.{writes_front}
use Rattle.text_layouts.proofs.paragraphs.Behind.push.Goals as goal

pub returns-clause-written : goal.returns-clause-written
returns-clause-written c = writes_front _ _ _ c.args.pieces.now c.split_at.result.0.now _ c.in_ok-push_empty_line.ensures c.in_ok-push_line.ensures c.split_at.ensures.front c.split_at.ensures.front_len
