use Rattle.std.proofs.Common.{◌≡◌, drop, max}
use Rattle.shared_certificates.specs.Reading.{greatest}
use Rattle.shared_reading.proofs.reading.greatest.Given as goal

abbrev pub invariant-loop-part : goal.invariant-loop-part
invariant-loop-part l = max l.most (greatest l.levels (drop l.part-index l.parts)) ≡ greatest l.levels l.parts
