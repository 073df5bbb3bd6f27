use Rattle.std.proofs.Common.{◌+◌, ◌-◌, ◌≤◌, length}
use Rattle.row_elimination.proofs.Merges.{Merging}
use Rattle.lean_elimination.proofs.merging.mix_entries.Given as goal

abbrev pub invariant-loop-i : goal.invariant-loop-i
invariant-loop-i l = record {
  i_in : l.i ≤ length l.xs;
  j_in : l.j ≤ length l.ys;
  merging : Merging l.limit l.x l.xs l.y l.ys l.out.items l.i l.j;
}

abbrev pub decreases-loop-i : goal.decreases-loop-i
decreases-loop-i l = (length l.xs - l.i) + (length l.ys - l.j)
