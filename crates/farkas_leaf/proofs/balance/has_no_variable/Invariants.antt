use Rattle.std.proofs.Common.{◌≡◌, ℕ, ◌+◌, ◌-◌, ◌<◌, ◌^◌, map, Some, None, Option}
use Rattle.std.specs.Prelude.{IfSome}
use Rattle.st_linear.specs.Linear.{AreEntries}
use Rattle.farkas_leaf.specs.Lines.{total, coefficient, signed_picks}
use Rattle.farkas_leaf.specs.Windows.{IsClear}
use Rattle.farkas_leaf.proofs.balance.has_no_variable.Given as goal

abbrev pub left_of : Option ℕ → ℕ
left_of None = 0
left_of (Some base) = 2 ^ 32 + 1 - base

abbrev pub invariant-loop-window : goal.invariant-loop-window
invariant-loop-window g l = record {
  clear : IsClear 0 l.window (λ v. coefficient v (total (map g.L.Constraint.line l.lines) (signed_picks g.M.Multiplier.signed l.picks)).entries);
  bound : IfSome l.window (λ v. v < 2 ^ 32);
  kept : l.window ≡ None → AreEntries (total (map g.L.Constraint.line l.lines) (signed_picks g.M.Multiplier.signed l.picks)).entries;
}

abbrev pub decreases-loop-window : goal.decreases-loop-window
decreases-loop-window g l = left_of l.window
