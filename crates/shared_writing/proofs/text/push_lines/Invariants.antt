use Rattle.std.proofs.Common.{◌≡◌, ◌++◌, drop, map}
use Rattle.shared_certificates.specs.Grammar.{line_word}
use Rattle.shared_writing.specs.Writing.{spaced}
use Rattle.shared_writing.proofs.text.push_lines.Given as goal

abbrev pub invariant-loop-line : goal.invariant-loop-line
invariant-loop-line l = l.out.items ++ spaced (map line_word (drop l.line-index l.lines)) ≡ l.fn.out.items ++ spaced (map line_word l.lines)
