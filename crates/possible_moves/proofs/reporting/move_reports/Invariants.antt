use Rattle.std.proofs.Common.{◌≡◌, length}
use Rattle.possible_moves.proofs.reporting.move_reports.Given as goal

abbrev pub invariant-loop-step : goal.invariant-loop-step
invariant-loop-step l = length l.out.items ≡ l.step-index
