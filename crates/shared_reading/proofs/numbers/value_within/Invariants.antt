use Rattle.std.proofs.Common.{◌≡◌, ◌≤◌, drop}
use Rattle.shared_certificates.specs.Reading.{value_behind}
use Rattle.shared_reading.proofs.numbers.value_within.Given as goal

abbrev pub invariant-loop-b : goal.invariant-loop-b
invariant-loop-b l = (l.value ≤ l.most) × (value_behind l.value (drop l.b-index l.digits) ≡ value_behind 0 l.digits)
