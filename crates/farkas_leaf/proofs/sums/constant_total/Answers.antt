use Rattle.std.proofs.Common.{ℕ, ◌+◌, ◌<◌, List, length, drop, map, arith, ℤ, ◌+ℤ◌}
use mir.Syntax.{w128}
use mir.Val.{to_z}
use Rattle.farkas_leaf.specs.Lines.{total, signed_picks}
use Rattle.farkas_leaf.proofs.Products.{to_z-below}
use Rattle.farkas_leaf.proofs.PickSums.{next-pick, next-line, rise-next, sum-grows, constant-step}
use Rattle.farkas_leaf.proofs.sums.constant_total.Goals as goal

pub loop-p-preserved : goal.loop-p-preserved
loop-p-preserved g c =
    let at : c.loop-p.p-index < length c.args.picks.now = omega arith in
    let sum : ℤ = to_z w128 c.loop-p.sum-bits in
    let term : ℤ = c.scaled_constant-sum.result in
    let pick : ℕ × ℤ = (c.p-item.result.0, g.M.Multiplier.signed c.p-item.result.1) in
    let rest : List (ℕ × ℤ) = signed_picks g.M.Multiplier.signed (drop (c.loop-p.p-index + 1) c.args.picks.now) in
    let next = next-pick g.M.Multiplier.signed c.args.picks.now c.loop-p.p-index c.p-item.result at c.p-item.is in
    let rise = rise-next (length c.args.lines.now) pick rest (rw next at c.loop-p.invariant.rising) in
    let line = next-line g.L.Constraint.line c.args.lines.now c.p-item.result.0 c.index-lines-p.result rise.0 c.index-lines-p.is in
    let size = sum-grows sum term c.loop-p.p-index c.loop-p.invariant.size c.scaled_constant-sum.ensures.size in
    rw (to_z-below term (omega (arith, c.scaled_constant-sum.ensures.size)), to_z-below (sum +ℤ term) (omega (arith, size, c.requires.few)))
    (record {
      size = size;
      rising = rise.1;
      same = constant-step (map g.L.Constraint.line c.args.lines.now) pick rest (g.L.Constraint.line c.index-lines-p.result) sum term (total (map g.L.Constraint.line c.args.lines.now) (signed_picks g.M.Multiplier.signed c.args.picks.now)).constant line c.scaled_constant-sum.ensures.value (rw next at c.loop-p.invariant.same);
    })
