use Rattle.std.proofs.Common.{◌≡◌, ◌+◌, ◌-◌, ◌++◌, ◌≤◌, length, drop}
use Rattle.std.specs.Prelude.{IsTrue}
use Rattle.st_linear.specs.Linear.{joined}
use Rattle.st_linear.specs.Linear.{are_within}
use Rattle.st_linear.proofs.entries.join.Given as goal

abbrev pub invariant-loop-i : goal.invariant-loop-i
invariant-loop-i l = record {
  i_in : l.i ≤ length l.xs;
  j_in : l.j ≤ length l.ys;
  same : l.out.items ++ joined (drop l.i l.xs) (drop l.j l.ys) ≡ joined l.xs l.ys;
  out_small : IsTrue (are_within l.limit l.out.items);
}

abbrev pub decreases-loop-i : goal.decreases-loop-i
decreases-loop-i l = (length l.xs - l.i) + (length l.ys - l.j)
