use Rattle.std.proofs.Common.{◌≡◌, ◌-◌, drop, cond, length}
use Rattle.cert_text.specs.Spelling.{lines_text, more_lines_text}
use Rattle.cert_lengths.proofs.lengths.behind_lines.Given as goal

abbrev pub invariant-loop-line : goal.invariant-loop-line
invariant-loop-line l = l.room - length (cond l.first (lines_text (drop l.line-index l.lines)) (more_lines_text (drop l.line-index l.lines))) ≡ l.fn.room - length (lines_text l.lines)
