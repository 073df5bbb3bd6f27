use Rattle.std.proofs.Common.{◌≡◌, ℕ, ◌<◌, pos}
use Rattle.std.specs.Prelude.{slice_index_or}
use Rattle.farkas_leaf.proofs.window.are_zero.Given as goal

abbrev pub invariant-loop-sum : goal.invariant-loop-sum
invariant-loop-sum l = (j : ℕ) → j < l.sum-index → slice_index_or l.sums j (pos 0) ≡ pos 0
