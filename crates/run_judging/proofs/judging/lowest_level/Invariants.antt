use Rattle.std.proofs.Common.{◌≡◌, ◌<◌, ◌≤◌, ℕ, false}
use Rattle.run_judging.specs.Judging.{is_level}
use Rattle.run_judging.proofs.judging.lowest_level.Given as goal

abbrev pub invariant-loop-level : goal.invariant-loop-level
invariant-loop-level l = record {
  passed : (j : ℕ) → l.after ≤ j → 1 ≤ j → j < l.level → is_level l.row j ≡ false;
}
