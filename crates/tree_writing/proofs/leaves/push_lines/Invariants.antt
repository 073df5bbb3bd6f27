use Rattle.std.proofs.Common.{◌≡◌, ◌++◌, drop, cond}
use Rattle.cert_text.specs.Spelling.{lines_text, more_lines_text}
use Rattle.tree_writing.proofs.leaves.push_lines.Given as goal

abbrev pub invariant-loop-line : goal.invariant-loop-line
invariant-loop-line l = l.out.items ++ cond l.first (lines_text (drop l.line-index l.lines)) (more_lines_text (drop l.line-index l.lines)) ≡ l.fn.out.items ++ lines_text l.lines
