use Rattle.std.proofs.Common.{◌≡◌, ◌++◌, ◌+◌, ◌-◌}
use Rattle.step_workload.specs.Parts.{filled, each_from}
use Rattle.step_workload.proofs.parts.push_each.Given as goal

abbrev pub invariant-loop-number : goal.invariant-loop-number
invariant-loop-number l = l.out.items ++ each_from (λ i. filled i l.part) l.number (l.last + 1 - l.number) ≡ l.initial.out.items ++ each_from (λ i. filled i l.part) l.first (l.last + 1 - l.first)
