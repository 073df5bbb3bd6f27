use Rattle.std.proofs.Common.{◌≡◌, drop}
use Rattle.st_linear.specs.Linear.{with_listed}
use Rattle.st_linear.proofs.substitution.add_listed.Given as goal

abbrev pub invariant-loop-e : goal.invariant-loop-e
invariant-loop-e l = with_listed l.numbers (drop l.e-index l.entries) l.sum ≡ with_listed l.numbers l.entries l.fn.start
