use Rattle.null_laws.specs.Bases.{AllMeet, IsRow}
use Rattle.location_equations.proofs.equations.rows_of.Given as goal

abbrev pub invariant-loop-vector : goal.invariant-loop-vector
invariant-loop-vector l = AllMeet (IsRow l.width) l.out.items
