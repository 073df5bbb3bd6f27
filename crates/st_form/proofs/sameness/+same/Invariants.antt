use Rattle.std.proofs.Common.{◌≡◌, length, map, take}
use Rattle.st_form.specs.Plain.{plain}
use Rattle.st_form.proofs.sameness.+same.Given as goal

abbrev pub invariant-are_same-loop-place : goal.invariant-are_same-loop-place
invariant-are_same-loop-place l = record {
  lengths : length l.fs ≡ length l.gs;
  same : map plain (take l.place l.fs) ≡ map plain (take l.place l.gs);
}
