use Rattle.std.proofs.Common.{◌≡◌, ◌++◌, drop, length, map, take}
use Rattle.explanations.specs.Explained.{count_in, name_of, named_in}
use Rattle.explanations.proofs.steps.step_reports.Given as goal

abbrev pub invariant-loop-number : goal.invariant-loop-number
invariant-loop-number l = record {
  names : map named_in l.out.items ++ map name_of (drop l.number l.told.steps.now) ≡ map name_of l.told.steps.now;
  counts : length l.all ≡ length l.told.steps.now → map count_in l.out.items ≡ take l.number l.all;
}
