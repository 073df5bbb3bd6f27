use Rattle.std.proofs.Common.{◌≡◌, length, take}
use Rattle.vc_generator.proofs.sameness.are_same_numbers.Given as goal

abbrev pub invariant-loop-place : goal.invariant-loop-place
invariant-loop-place l = record {
  lengths : length l.xs ≡ length l.ys;
  same : take l.place l.xs ≡ take l.place l.ys;
}
