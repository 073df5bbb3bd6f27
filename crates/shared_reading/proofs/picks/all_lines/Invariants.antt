use Rattle.std.proofs.Common.{◌≡◌, drop, map}
use Rattle.shared_certificates.specs.Reading.{all_of, line}
use Rattle.shared_certificates.specs.Views.{bytes_of}
use Rattle.shared_reading.proofs.Loops.{lifted}
use Rattle.shared_reading.proofs.picks.all_lines.Given as goal

abbrev pub invariant-loop-word : goal.invariant-loop-word
invariant-loop-word l = lifted l.out.items (all_of line (map bytes_of (drop l.word-index l.words))) ≡ all_of line (map bytes_of l.words)
