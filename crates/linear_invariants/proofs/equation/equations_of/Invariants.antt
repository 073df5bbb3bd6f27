use Rattle.std.proofs.Common.{◌≡◌, ◌++◌, map, drop}
use Rattle.equation_laws.specs.Equations.{equation_of, with_variables}
use Rattle.linear_invariants.specs.Plain.{plain_equations}
use Rattle.linear_invariants.proofs.equation.equations_of.Given as goal

abbrev pub invariant-loop-row : goal.invariant-loop-row
invariant-loop-row l =
    plain_equations l.out.items ++ map (equation_of l.variables l.locations) (with_variables l.variables (drop l.row-index l.basis))
    ≡ map (equation_of l.variables l.locations) (with_variables l.variables l.basis)
