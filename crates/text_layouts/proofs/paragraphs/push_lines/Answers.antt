use Rattle.std.proofs.Common.{arith}
use Rattle.text_layouts.proofs.Layouts.{writes_all, writes_line}
use Rattle.text_layouts.proofs.paragraphs.push_lines.Goals as goal

pub loop-passed-preserved : goal.loop-passed-preserved
loop-passed-preserved c = (
  omega (arith, c.in_ok-passed.ensures.within, c.split_at.ensures.back_len, c.loop-passed-test.true),
  writes_line _ _ _ c.args.pieces.now c.loop-passed.passed _ _ c.split_at.ensures.back c.loop-passed.invariant.1 c.in_ok-passed.ensures.written,
)

pub returns : goal.returns
returns c = writes_all _ _ c.args.pieces.now c.loop-passed.passed (omega (arith, c.loop-passed-test.false)) c.loop-passed.invariant.1
