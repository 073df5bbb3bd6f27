use Rattle.std.proofs.Common.{◌≡◌, ◌++◌, ◌-◌, replicate, None}
use Rattle.farkas_check.proofs.problems.undecided_truths.Given as goal

abbrev pub invariant-loop-i : goal.invariant-loop-i
invariant-loop-i l = l.out.items ++ replicate (l.count - l.i) None ≡ replicate l.count None
