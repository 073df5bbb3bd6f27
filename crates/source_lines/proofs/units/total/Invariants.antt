use Rattle.std.proofs.Common.{◌≡◌, ◌+◌, ◌*◌, ◌≤◌, drop}
use Rattle.source_lines.specs.Lines.{total}
use Rattle.source_lines.proofs.units.total.Given as goal

abbrev pub invariant-loop-byte : goal.invariant-loop-byte
invariant-loop-byte l = record {
  is : l.total + total l.units (drop l.byte-index l.bytes) ≡ total l.units l.bytes;
  small : l.total ≤ 2 * l.byte-index;
}
