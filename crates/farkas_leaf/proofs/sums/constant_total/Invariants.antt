use Rattle.std.proofs.Common.{◌≡◌, ◌≤◌, ◌*◌, ◌^◌, drop, length, map, ◌+ℤ◌}
use Rattle.std.specs.Prelude.{unsigned_abs}
use Rattle.farkas_leaf.specs.Lines.{total, RiseWithin, signed_picks}
use Rattle.farkas_leaf.proofs.sums.constant_total.Given as goal

abbrev pub invariant-loop-p : goal.invariant-loop-p
invariant-loop-p g l = record {
  size : unsigned_abs l.sum ≤ 2 ^ 110 * l.p-index;
  rising : RiseWithin (length l.lines) 0 (signed_picks g.M.Multiplier.signed (drop l.p-index l.picks));
  same : l.sum +ℤ (total (map g.L.Constraint.line l.lines) (signed_picks g.M.Multiplier.signed (drop l.p-index l.picks))).constant ≡ (total (map g.L.Constraint.line l.lines) (signed_picks g.M.Multiplier.signed l.picks)).constant;
}
