use Rattle.std.proofs.Common.{refl, map, arith, Some}
use Rattle.st_linear.specs.Linear.{Linear}
use Rattle.farkas_leaf.specs.Lines.{total, coefficient, signed_picks}
use Rattle.farkas_leaf.specs.Windows.{IsClear}
use Rattle.farkas_leaf.proofs.Coefficients.{no_entries}
use Rattle.farkas_leaf.proofs.PickSums.{clear-on}
use Rattle.farkas_leaf.proofs.balance.has_no_variable.Goals as goal

pub loop-window-preserved : goal.loop-window-preserved
loop-window-preserved g c =
    let sum : Linear = total (map g.L.Constraint.line c.args.lines.now) (signed_picks g.M.Multiplier.signed c.args.picks.now) in
    let before : IsClear 0 (Some c.in-Some.base) (λ v. coefficient v sum.entries) = rw c.in-Some.is at c.loop-window.invariant.clear in
    record {
      clear = clear-on c.in-Some.base c.in-Ok.next (λ v. coefficient v sum.entries) before c.in-Ok.ensures.within c.in-Ok.ensures.behind;
      bound = c.in-Ok.ensures.bound;
      kept = λ e. c.in-Ok.ensures.kept;
    }

pub returns : goal.returns
returns g c =
    let sum : Linear = total (map g.L.Constraint.line c.args.lines.now) (signed_picks g.M.Multiplier.signed c.args.picks.now) in
    let clear = rw c.in_default.is at c.loop-window.invariant.clear in
    (λ yes'. no_entries sum.entries (c.loop-window.invariant.kept c.in_default.is) (λ v. clear v (omega arith)), λ e. refl)
