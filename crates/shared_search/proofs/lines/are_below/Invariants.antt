use Rattle.std.proofs.Common.{drop}
use Rattle.row_elimination.specs.Runs.{AllWithin}
use Rattle.row_elimination.specs.Eliminations.{AreBelow}
use Rattle.shared_search.proofs.lines.are_below.Given as goal

abbrev pub invariant-loop-line : goal.invariant-loop-line
invariant-loop-line l = record {
  below : AreBelow l.count (drop l.line-index l.lines) → AreBelow l.count l.lines;
  within : AllWithin (drop l.line-index l.lines) → AllWithin l.lines;
}
