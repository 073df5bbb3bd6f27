use Rattle.std.proofs.Common.{◌≡◌, drop}
use Rattle.st_linear.specs.Linear.{rise_from}
use Rattle.st_linear.proofs.entries.are_listed.Given as goal

abbrev pub invariant-loop-e : goal.invariant-loop-e
invariant-loop-e l = rise_from l.low (drop l.e-index l.entries) ≡ rise_from 0 l.entries
