use Rattle.std.proofs.Common.{◌≡◌, ◌-◌, ◌≤◌, length}
use Rattle.shared_certificates.specs.Lines.{lines}
use Rattle.shared_certificates.specs.Nodes.{table_view}
use Rattle.shared_certificates.specs.Reading.{lines_read}
use Rattle.shared_reading.proofs.reading.read_lines.Given as goal

abbrev pub invariant-lines : goal.invariant-lines
invariant-lines l = record {
  within : length l.rest ≤ length l.text;
  same : lines_read (length l.text - length l.rest) (table_view l.table) (lines l.rest) ≡ lines_read (length l.text - length l.behind) (table_view l.fn.before) (lines l.behind);
}

abbrev pub decreases-lines : goal.decreases-lines
decreases-lines l = length l.rest
