use Rattle.std.proofs.Common.{◌≡◌, ◌⊎◌, ℕ, Some, true, length, slice_get}
use Rattle.discharge.proofs.marks.take_over.Given as goal

abbrev pub invariant-loop-place : goal.invariant-loop-place
invariant-loop-place l = record {
  as_many : length l.marks.items ≡ length l.fn.marks.items;
  from : (i : ℕ) → slice_get l.marks.items i ≡ Some true → (slice_get l.fn.marks.items i ≡ Some true) ⊎ (slice_get l.others i ≡ Some true);
}
