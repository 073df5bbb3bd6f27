use Rattle.std.proofs.Common.{◌≡◌, ◌++◌, drop}
use Rattle.st_linear.specs.Linear.{kept_entries}
use Rattle.st_linear.proofs.substitution.kept_entries.Given as goal

abbrev pub invariant-loop-e : goal.invariant-loop-e
invariant-loop-e l = l.out.items ++ kept_entries l.numbers (drop l.e-index l.entries) ≡ kept_entries l.numbers l.entries
