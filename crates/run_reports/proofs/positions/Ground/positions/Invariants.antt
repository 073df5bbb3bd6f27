use Rattle.std.proofs.Common.{◌≡◌, length}
use Rattle.run_reports.proofs.positions.Ground.positions.Given as goal

abbrev pub invariant-loop-number : goal.invariant-loop-number
invariant-loop-number l = length l.out.items ≡ l.number
