use Rattle.std.proofs.Common.{◌≡◌, length, take}
use Rattle.shared_search.proofs.sameness.is_same_context.Given as goal

abbrev pub invariant-loop-place : goal.invariant-loop-place
invariant-loop-place l = record {
  lengths : length l.xs ≡ length l.ys;
  same : take l.place l.xs ≡ take l.place l.ys;
}
