use Rattle.std.proofs.Common.{◌≡◌, Some}
use Rattle.fault_reports.specs.Told.{first_spot, first_told}
use Rattle.fault_reports.proofs.finding.with_further.Given as goal

abbrev pub invariant-loop : goal.invariant-loop
invariant-loop l = first_told l.out.items ≡ Some (first_spot l.fn.first.spots.items)
