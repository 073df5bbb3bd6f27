use Rattle.std.proofs.Common.{◌≡◌, ℕ, ◌+◌, ◌<◌, ◌≤◌, ◌*◌, ◌^◌, drop, length, map, pos, ◌+ℤ◌}
use Rattle.std.specs.Prelude.{unsigned_abs, slice_index_or, IfSome}
use Rattle.st_linear.specs.Linear.{AreEntries}
use Rattle.farkas_leaf.specs.Lines.{total, RiseWithin, coefficient, signed_picks}
use Rattle.farkas_leaf.specs.Windows.{AgreeUpTo}
use Rattle.farkas_leaf.proofs.sums.add_up.Given as goal

abbrev pub invariant-loop-p : goal.invariant-loop-p
invariant-loop-p g l = record {
  size : (j : ℕ) → j < 64 → unsigned_abs (slice_index_or l.sums j (pos 0)) ≤ 2 ^ 110 * l.p-index;
  rising : RiseWithin (length l.lines) 0 (signed_picks g.M.Multiplier.signed (drop l.p-index l.picks));
  same : (j : ℕ) → j < 64 → slice_index_or l.sums j (pos 0) +ℤ coefficient (l.base + j) (total (map g.L.Constraint.line l.lines) (signed_picks g.M.Multiplier.signed (drop l.p-index l.picks))).entries ≡ coefficient (l.base + j) (total (map g.L.Constraint.line l.lines) (signed_picks g.M.Multiplier.signed l.picks)).entries;
  behind : AgreeUpTo (l.base + 64) l.next
      (λ v. coefficient v (total (map g.L.Constraint.line l.lines) (signed_picks g.M.Multiplier.signed l.picks)).entries)
      (λ v. coefficient v (total (map g.L.Constraint.line l.lines) (signed_picks g.M.Multiplier.signed (drop l.p-index l.picks))).entries);
  bound : IfSome l.next (λ v. v < 2 ^ 32);
  kept : AreEntries (total (map g.L.Constraint.line l.lines) (signed_picks g.M.Multiplier.signed (drop l.p-index l.picks))).entries → AreEntries (total (map g.L.Constraint.line l.lines) (signed_picks g.M.Multiplier.signed l.picks)).entries;
}
