use Rattle.std.proofs.Common.{◌≡◌, drop, false}
use Rattle.st_linear.specs.Linear.{is_wide}
use Rattle.elimination_laws.specs.Points.{evaluated_but}
use Rattle.row_elimination.proofs.point.evaluate_but.Given as goal

abbrev pub invariant-loop-e : goal.invariant-loop-e
invariant-loop-e l = record {
  narrow : is_wide l.sum ≡ false;
  same : evaluated_but l.var l.values (drop l.e-index l.entries) l.sum ≡ evaluated_but l.var l.values l.entries l.fn.constant;
}
