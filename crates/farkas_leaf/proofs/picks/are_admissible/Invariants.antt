use Rattle.std.proofs.Common.{◌↔◌, drop, length, map}
use Rattle.farkas_leaf.specs.Lines.{RiseWithin, IsSigned, signed_picks}
use Rattle.farkas_leaf.proofs.picks.are_admissible.Given as goal

abbrev pub invariant-loop-p : goal.invariant-loop-p
invariant-loop-p g l = record {
  rising : RiseWithin (length l.lines) l.low (signed_picks g.M.Multiplier.signed (drop l.p-index l.picks)) ↔ RiseWithin (length l.lines) 0 (signed_picks g.M.Multiplier.signed l.picks);
  signed : IsSigned (map g.L.Constraint.line l.lines) (signed_picks g.M.Multiplier.signed (drop l.p-index l.picks)) ↔ IsSigned (map g.L.Constraint.line l.lines) (signed_picks g.M.Multiplier.signed l.picks);
}
