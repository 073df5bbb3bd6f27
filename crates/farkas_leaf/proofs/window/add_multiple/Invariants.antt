use Rattle.std.proofs.Common.{◌≡◌, ℕ, ◌+◌, ◌<◌, ◌≤◌, drop, length, pos, ◌+ℤ◌, ◌*ℤ◌}
use Rattle.std.specs.Prelude.{slice_index_or}
use Rattle.st_linear.specs.Linear.{AreEntries}
use Rattle.farkas_leaf.specs.Lines.{coefficient}
use Rattle.farkas_leaf.proofs.window.add_multiple.Given as goal

abbrev pub invariant-loop-e : goal.invariant-loop-e
invariant-loop-e l = record {
  long : length l.sums ≡ 64;
  kept : AreEntries (drop l.e-index l.entries);
  same : (j : ℕ) → j < 64 → slice_index_or l.sums j (pos 0) +ℤ coefficient (l.base + j) (drop l.e-index l.entries) *ℤ l.by ≡ slice_index_or l.initial.sums j (pos 0) +ℤ coefficient (l.base + j) l.entries *ℤ l.by;
  behind : (v : ℕ) → l.base + 64 ≤ v → coefficient v (drop l.e-index l.entries) ≡ coefficient v l.entries;
}
