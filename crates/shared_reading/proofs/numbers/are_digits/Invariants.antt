use Rattle.std.proofs.Common.{◌≡◌, drop}
use Rattle.shared_certificates.specs.Reading.{are_digits}
use Rattle.shared_reading.proofs.numbers.are_digits.Given as goal

abbrev pub invariant-loop-b : goal.invariant-loop-b
invariant-loop-b l = are_digits (drop l.b-index l.word) ≡ are_digits l.word
