use Rattle.std.proofs.Common.{◌≡◌, drop}
use Rattle.farkas_check.specs.Problem.{are_integers}
use Rattle.farkas_check.proofs.decisions.are_integers.Given as goal

abbrev pub invariant-loop-e : goal.invariant-loop-e
invariant-loop-e l = are_integers l.variables (drop l.e-index l.entries) ≡ are_integers l.variables l.entries
