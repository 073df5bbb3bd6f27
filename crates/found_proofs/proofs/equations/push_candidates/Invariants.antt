use Rattle.std.proofs.Common.{drop}
use Rattle.linear_invariants.specs.Plain.{plain_equations}
use Rattle.equation_writer.specs.Proper.{AreProper}
use Rattle.found_proofs.proofs.equations.push_candidates.Given as goal

abbrev pub invariant-loop-equation : goal.invariant-loop-equation
invariant-loop-equation l = AreProper (plain_equations (drop l.equation-index l.equations))
