use Rattle.std.proofs.Common.{◌≡◌, ℕ, ◌+◌, ◌<◌, ◌^◌, List, ◌∷◌, length, drop, map, arith, ℤ, pos, ◌*ℤ◌}
use Rattle.std.specs.Prelude.{slice_index_or}
use Rattle.st_linear.specs.declared.rows.Line.{Line}
use Rattle.farkas_leaf.specs.Lines.{line_at, total, coefficient, signed_picks}
use Rattle.farkas_leaf.proofs.PickSums.{next-pick, next-line, rise-next, sum-grows, coefficient-step, kept-total, agree-nearer, agree-step, bound-nearer}
use Rattle.farkas_leaf.proofs.sums.add_up.Goals as goal

pub loop-p-preserved : goal.loop-p-preserved
loop-p-preserved g c =
    let at : c.loop-p.p-index < length c.args.picks.now = omega arith in
    let lines : List Line = map g.L.Constraint.line c.args.lines.now in
    let pick : ℕ × ℤ = (c.p-item.result.0, g.M.Multiplier.signed c.p-item.result.1) in
    let rest : List (ℕ × ℤ) = signed_picks g.M.Multiplier.signed (drop (c.loop-p.p-index + 1) c.args.picks.now) in
    let next = next-pick g.M.Multiplier.signed c.args.picks.now c.loop-p.p-index c.p-item.result at c.p-item.is in
    let rise = rise-next (length c.args.lines.now) pick rest (rw next at c.loop-p.invariant.rising) in
    let own : Line = g.L.Constraint.line c.index-lines-p.result in
    let line : line_at lines pick.0 ≡ own = next-line g.L.Constraint.line c.args.lines.now c.p-item.result.0 c.index-lines-p.result rise.0 c.index-lines-p.is in
    record {
      size = λ j h. rw (c.add_line.ensures.added j h) (sum-grows (slice_index_or c.loop-p.sums j (pos 0)) (coefficient (c.args.base + j) own.form.entries *ℤ pick.1) c.loop-p.p-index (c.loop-p.invariant.size j h) (c.add_line.ensures.size (c.args.base + j)));
      rising = rise.1;
      same = λ j h. coefficient-step (c.args.base + j) lines pick rest own (slice_index_or c.loop-p.sums j (pos 0)) (slice_index_or c.add_line.new.sums j (pos 0)) (coefficient (c.args.base + j) (total lines (signed_picks g.M.Multiplier.signed c.args.picks.now)).entries) line (c.add_line.ensures.added j h) (rw next at (c.loop-p.invariant.same j h));
      behind =
          rw c.nearer-next.ensures
          (agree-nearer (c.args.base + 64) c.loop-p.next c.add_line.result (λ v. coefficient v (total lines (signed_picks g.M.Multiplier.signed c.args.picks.now)).entries) (λ v. coefficient v (total lines (pick ∷ rest)).entries) (λ v. coefficient v (total lines rest).entries)
          (rw next at c.loop-p.invariant.behind)
          (agree-step (c.args.base + 64) c.add_line.result lines pick rest (rw line c.add_line.ensures.behind)));
      bound = rw c.nearer-next.ensures (bound-nearer (2 ^ 32) c.loop-p.next c.add_line.result c.loop-p.invariant.bound c.add_line.ensures.bound);
      kept = λ k. (rw next at c.loop-p.invariant.kept) (kept-total lines pick rest (rw line c.add_line.ensures.kept) k);
    }
