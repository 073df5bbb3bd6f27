use Rattle.std.proofs.Common.{◌≡◌, ◌++◌, drop}
use Rattle.source_lines.specs.Lines.{feeds_from}
use Rattle.source_lines.proofs.lines.feeds_of.Given as goal

abbrev pub invariant-loop-place : goal.invariant-loop-place
invariant-loop-place l = l.feeds.items ++ feeds_from l.place (drop l.place l.text) ≡ feeds_from 0 l.text
