use Rattle.std.proofs.Common.{◌≡◌, ◌++◌, map, drop}
use Rattle.source_parts.specs.Parts.{blank}
use Rattle.source_parts.proofs.blanked.Given as goal

abbrev pub invariant-loop-byte : goal.invariant-loop-byte
invariant-loop-byte l = (l.text.items ++ map blank (drop l.byte-index l.fn.front) ≡ map blank l.fn.front)
