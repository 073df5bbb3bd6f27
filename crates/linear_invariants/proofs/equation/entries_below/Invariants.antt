use Rattle.std.proofs.Common.{◌≡◌, ◌++◌, drop}
use Rattle.equation_laws.specs.Equations.{entries_below}
use Rattle.linear_invariants.proofs.equation.entries_below.Given as goal

abbrev pub invariant-loop-e : goal.invariant-loop-e
invariant-loop-e l = l.out.items ++ entries_below l.columns (drop l.e-index l.entries) ≡ entries_below l.columns l.entries
