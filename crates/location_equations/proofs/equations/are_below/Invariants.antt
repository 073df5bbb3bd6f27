use Rattle.std.proofs.Common.{◌≡◌, drop}
use Rattle.location_equations.specs.Below.{are_below}
use Rattle.location_equations.proofs.equations.are_below.Given as goal

abbrev pub invariant-loop-entry : goal.invariant-loop-entry
invariant-loop-entry l = are_below l.width (drop l.entry-index l.entries) ≡ are_below l.width l.entries
