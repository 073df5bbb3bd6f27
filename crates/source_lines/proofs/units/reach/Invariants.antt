use Rattle.std.proofs.Common.{◌≡◌, ◌+◌, drop}
use Rattle.source_lines.specs.Lines.{reach}
use Rattle.source_lines.proofs.units.reach.Given as goal

abbrev pub invariant-loop-place : goal.invariant-loop-place
invariant-loop-place l = l.place + reach l.units l.left (drop l.place l.bytes) ≡ reach l.units l.count l.bytes
