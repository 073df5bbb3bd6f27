use Rattle.std.proofs.Common.{drop}
use Rattle.elimination_laws.specs.Laws.{AreProper}
use Rattle.row_elimination.specs.Eliminations.{AreBelow}
use Rattle.row_elimination.proofs.top.look_at.Given as goal

abbrev pub invariant-loop-line : goal.invariant-loop-line
invariant-loop-line l = record {
  below : AreBelow l.variables (drop l.line-index l.lines);
  proper : AreProper l.variables (drop l.line-index l.lines) → AreProper l.variables l.lines;
}
