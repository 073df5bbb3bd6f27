use Rattle.std.proofs.Common.{◌≡◌, ◌+◌, ◌-◌, length, take}
use Rattle.std.specs.Prelude.{IfSome}
use Rattle.step_plan.proofs.reading.read_whole.Given as goal

abbrev pub invariant-loop-buf : goal.invariant-loop-buf
invariant-loop-buf g l = record {
  same : g.F.Files.told l.files ≡ g.F.Files.told l.initial.files;
  counts : g.F.Files.faults l.files ≡ g.F.Files.faults l.initial.files;
  front : IfSome (g.F.Files.told l.initial.files l.name) (λ whole. l.bytes.items ≡ take (length l.bytes.items) whole);
}

abbrev pub decreases-loop-buf : goal.decreases-loop-buf
decreases-loop-buf g l = l.limit + 1 - length l.bytes.items
