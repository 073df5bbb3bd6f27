use Rattle.std.proofs.Common.{◌≡◌, ◌++◌, drop}
use Rattle.equation_laws.specs.Equations.{entries_between}
use Rattle.linear_invariants.proofs.equation.entries_between.Given as goal

abbrev pub invariant-loop-e : goal.invariant-loop-e
invariant-loop-e l = l.out.items ++ entries_between l.columns l.locations (drop l.e-index l.entries) ≡ entries_between l.columns l.locations l.entries
