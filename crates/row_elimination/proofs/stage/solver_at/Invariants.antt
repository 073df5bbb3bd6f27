use Rattle.std.proofs.Common.{◌≡◌, ◌++◌, drop, take}
use Rattle.elimination_laws.specs.Stages.{solver, others}
use Rattle.row_elimination.specs.Plain.{rows}
use Rattle.row_elimination.proofs.stage.solver_at.Given as goal

abbrev pub invariant-loop-i : goal.invariant-loop-i
invariant-loop-i l = record {
  left : solver l.var (rows (drop l.i l.lines)) ≡ solver l.var (rows l.lines);
  rest : rows (take l.i l.lines) ++ others l.var (rows (drop l.i l.lines)) ≡ others l.var (rows l.lines);
}
